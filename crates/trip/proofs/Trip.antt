-- From requests to calls on lent tables: the checks pass exactly on tables that stand as reading leaves them, so that the two ways of
-- the round trip follow from those over requests.
use Rattle.std.specs.Prelude.{ℕ, zero, suc, ◌≤◌, ◌≡◌, refl, List, Bool, true, false, cond, leb, length}
use Rattle.std.proofs.Common.{sym, ap, ◌∙◌, leb-true, le-leb}
use Rattle.scope.specs.Call.Result.{result, refused}
use Rattle.scope.specs.Call.Answer.{Answer, told, answer}
use Rattle.scope.specs.File.Request.{Request}
use Rattle.scope.specs.File.Refusals.{unit_refusal}
use Rattle.scope.specs.File.Text.{request_text}
use Rattle.scope.specs.File.Reader.{read_request}
use Rattle.scope.specs.Call.Tables.{Lent, has_room, request_of, lent_of}
use Rattle.scope.specs.Call.Checked.{line_answers, checked}
use Rattle.scope.specs.Call.Calls.{reading, lent_after, written_if, writing}
use Rattle.scope.specs.Tools.Tests.{never, demand_met, demand_passes}
use Rattle.trip.proofs.Requests.{text_reads, read_unrefused, read_text}
use Rattle.trip.specs.Checks.{nothing_met, met_first, met_apart, passes, passes_all, lines_unrefused, unrefused_lines}
use Rattle.trip.specs.Fits.{text_fits}
use Rattle.trip.specs.Entries.{has_room_lem}
use Rattle.trip.proofs.Entries.{lent_back, said}
use Rattle.trip.specs.Trip.{Fine, check_law, kept_logic, unmet, Wrote, got, read_for, left_for}

logic_kept : (t : Lent) → unit_refusal t.version t.logic ≡ 0 → unit_refusal (request_of t).version (request_of t).logic ≡ 0
unfolding request_of
logic_kept t e = e

pub checked_fine : (t : Lent) → checked t ≡ answer 0 0 → Fine t
checked_fine t e =
    let a = met_first _ _ _ (sym (check_law t) ∙ e) in
    let u = met_first _ _ _ a.two in
    let b = met_apart (line_answers (request_of t)) _ u.two in
    let c = met_first _ _ _ b.two in
    record { room = (demand_met _ 12 0 a.one).0; unrefused = lines_unrefused (request_of t) (logic_kept t u.one) b.one; past = (demand_met _ 2 0 c.one).0 }

pub fine_checked : (t : Lent) → Fine t → checked t ≡ answer 0 0
fine_checked t g =
    check_law t ∙
    passes _ _ _ (demand_passes _ 13 0 g.room) ∙
    passes _ _ _ (kept_logic t g.unrefused.logic) ∙
    passes_all _ _ (unrefused_lines (request_of t) g.unrefused) ∙
    passes _ _ _ (demand_passes _ 3 0 g.past) ∙
    nothing_met

pub wrote : (t : Lent) (len : ℕ) (s : List ℕ) → writing t len ≡ result s → Wrote t len s
unfolding writing written_if
wrote t len s e = go (checked t) refl e
  where
    picked : (b : Bool) (u : List ℕ) → leb (length u) len ≡ b → cond b (result u) (refused (answer 14 0)) ≡ result s → (u ≡ s) × (length s ≤ len)
    picked true u l q =
        let z : u ≡ s = cc in
        (z, rw z at (leb-true (length u) len l))
    picked false u l q = never cc

    go : (a : Answer) → checked t ≡ a → written_if a (request_text (request_of t)) len ≡ result s → Wrote t len s
    go (told zero p n) c q =
        let w = picked (leb (length (request_text (request_of t))) len) (request_text (request_of t)) refl q in
        record { fine = checked_fine t (unmet t p n c); text = w.0; fits = w.1 }
    go (told (suc k) p n) c q = never cc

pub write_again : (t : Lent) (len : ℕ) → Fine t → length (request_text (request_of t)) ≤ len → writing t len ≡ result (request_text (request_of t))
unfolding writing written_if
write_again t len g h = rw (fine_checked t g, le-leb (length (request_text (request_of t))) len h)

-- A text in the lent room, short enough, is read as it stands.
read_law :
    (forms policy steps : ℕ) (s : List ℕ) → has_room forms policy steps ≡ true → length s ≤ 65536 → reading forms policy steps s ≡ read_request s
unfolding reading
read_law f l n s r h = rw (r, le-leb (length s) 65536 h)

pub write_then_read :
    (t : Lent) (len : ℕ) (s : List ℕ) → writing t len ≡ result s → (read_for t s ≡ result (request_of t)) × (left_for t s ≡ t)
write_then_read t len s e =
    let w = wrote t len s e in
    let g = w.fine in
    let h = text_fits (request_of t) g.unrefused in
    let r = read_law (length t.form_table) (length t.policy_table) (length t.step_table) (request_text (request_of t)) g.room h in
    let b = text_reads (request_of t) g.unrefused in
    let x : read_for t s ≡ result (request_of t) = cc w.text in
    let y = lent_back t (has_room_lem _ _ _ g.room) g.unrefused g.past in
    (x, rw x (unfold lent_after in y))

-- What was read stands in tables that pass every check, and they say the request that was read.
pub read_fine :
    (forms policy steps : ℕ) (s : List ℕ) (q : Request) → reading forms policy steps s ≡ result q
    → Fine (lent_of forms policy steps q) × (request_of (lent_of forms policy steps q) ≡ q)
read_fine f l n s q e =
    let g = got f l n s q e in
    let k = read_unrefused s q g.request in
    let d = said f l n q (has_room_lem f l n g.room) k in
    (record { room = rw (d.form_room_lem, d.line_room_lem, d.step_room) g.room; unrefused = rw d.back k; past = d.past }, d.back)

pub read_then_write :
    (forms policy steps len : ℕ) (s : List ℕ) (q : Request) → reading forms policy steps s ≡ result q → length s ≤ len
    → writing (lent_after forms policy steps (result q)) len ≡ result s
unfolding lent_after
read_then_write f l n len s q e h =
    let d = read_fine f l n s q e in
    let t = lent_of f l n q in
    let x = read_text s q (got f l n s q e).request in
    let y : request_text (request_of t) ≡ s = ap request_text d.1 ∙ sym x in
    write_again t len d.0 (rw y h) ∙ ap (λ u. result u) y
