-- The first lines, and the whole file from them and from what is read behind them.
use Rattle.std.specs.Prelude.{ℕ, ◌+◌, ◌≤◌, ◌≡◌, List, [], ◌∷◌, ◌++◌, length}
use Rattle.std.proofs.Common.{arith, ap, sym, ◌∙◌, length-append, ne_eqb}
use Rattle.std.proofs.Math.Path.{refl}
use Rattle.scope.specs.Call.Result.{result, refused}
use Rattle.scope.specs.Logic.Facts.{Logic, plain}
use Rattle.scope.specs.Call.Answer.{Answer, told, further_down}
use Rattle.scope.specs.File.Request.{Request}
use Rattle.scope.specs.File.Line.{Read, ok, bad, line, and_then, ◌>>=◌}
use Rattle.scope.specs.File.Refusals.{version_refusal}
use Rattle.scope.specs.File.Text.{version_line, logic_line}
use Rattle.scope.specs.File.Reader.{body_lines, read_logic, read_request}
use Rattle.scope.specs.Limits.{most_bytes, version_at, logic_at, extra_lines, end_at}
use Rattle.scope.specs.Tools.Tests.{never}
use Rattle.trip.specs.LinePlaces.{lfs, lfs_within}
use Rattle.trip.proofs.Places.{body_from}
use Rattle.reader.specs.Sections.{Told, start_part}
use Rattle.common.specs.declared.Counts.{Counts}
use Rattle.reader.specs.Answers.{start_of, Kept}
use Rattle.reader.specs.declared.parts.Start.{Start}
use Rattle.reader.specs.Many.{tail_length}
use Rattle.reader.specs.Whole.{body_ended, body_request, headed, headed_outcome, start_read, start_ends}

-- The first line, and in version 2 the second.
module _ (s : List ℕ) where
  pub start_at_version : (z : Answer) → line version_line version_refusal version_at s ≡ bad z → start_part s ≡ bad z
  unfolding start_part ◌>>=◌ and_then
  start_at_version z a = rw a refl

  module _ (v : ℕ) (s₁ : List ℕ) (a : line version_line version_refusal version_at s ≡ ok v s₁) where
    pub start_alone : (v ≡ 2 → ⊥) → start_part s ≡ ok record { version = v; logic = plain } s₁
    unfolding start_part read_logic ◌>>=◌ and_then
    start_alone h = rw a (rw (ne_eqb v 2 h) refl)

    pub start_at_logic : v ≡ 2 → (z : Answer) → line logic_line (λ l. 0) logic_at s₁ ≡ bad z → start_part s ≡ bad z
    unfolding start_part read_logic ◌>>=◌ and_then
    start_at_logic h z b = rw (a, h) (rw b refl)

    pub start_whole : v ≡ 2 → (l : Logic) (s₂ : List ℕ) → line logic_line (λ l. 0) logic_at s₁ ≡ ok l s₂ → start_part s ≡ ok record { version = v; logic = l } s₂
    unfolding start_part read_logic ◌>>=◌ and_then
    start_whole h l s₂ b = rw (a, h) (rw b refl)

-- What was read behind the first lines, told with version and logic; where it is a refusal, its place is that of the file.
module _ (t : List ℕ) (h : Told) (rest : List ℕ) (e : start_part t ≡ ok h rest) where
  pub rest_place : length rest ≤ length t
  rest_place = tail_length rest t (start_ends.ends t h rest e)

  whole_told : (q : Request) → body_request rest ≡ result q → read_request t ≡ result (headed h.version h.logic q)
  unfolding headed_outcome
  whole_told q f = start_read t h rest e ∙ rw f refl

  refusal_read : (k p c : ℕ) → body_request rest ≡ refused (told k p c) → read_request t ≡ refused (told k (p + extra_lines h.version) c)
  unfolding headed_outcome further_down
  refusal_read k p c f = start_read t h rest e ∙ rw f refl

  -- The counts get version and logic; the tables stay.
  module _ (s : Start) (seen : s ≡ start_of h) where
    pub kept_told : (c : Counts) (forms policy steps : List ℕ) → Kept (body_request rest) c forms policy steps →
        Kept (read_request t)
        record { version = s.version; logic = s.logic; principals = c.principals; atoms = c.atoms; formulas = c.formulas; policy = c.policy; goal = c.goal; steps = c.steps }
        forms policy steps
    kept_told c forms policy steps k =
        record {
          request = headed h.version h.logic k.request;
          is = whole_told k.request k.is;
          counted =
              λ i. record {
                version = (seen i).version;
                logic = (seen i).logic;
                principals = (k.counted i).principals;
                atoms = (k.counted i).atoms;
                formulas = (k.counted i).formulas;
                policy = (k.counted i).policy;
                goal = (k.counted i).goal;
                steps = (k.counted i).steps;
              };
          forms_stored = k.forms_stored;
          policy_stored = k.policy_stored;
          steps_stored = k.steps_stored;
        }

    pub refusal_told : (k p c : ℕ) → body_request rest ≡ refused (told k p c) → read_request t ≡ refused (told k (p + extra_lines s.version) c)
    refusal_told k p c f = refusal_read k p c f ∙ (λ i. refused (told k (p + extra_lines (sym seen i).version) c))

-- The place of a refusal behind the first lines is near, for the file is short.
pub near_body : (s : List ℕ) → length s ≤ most_bytes → (k p c : ℕ) → body_request s ≡ refused (told k p c) → p ≤ 70000
unfolding body_request body_ended
near_body s h k p c e = go (body_lines 0 plain s) refl e
  where
    within : (gone rest : List ℕ) → s ≡ gone ++ rest → lfs gone ≤ 65536
    within gone rest e =
        let n : length s ≡ length gone + length rest = ap length e ∙ length-append gone rest in
        omega (arith, lfs_within gone)

    go : (x : Read Request) → body_lines 0 plain s ≡ x → body_ended x ≡ refused (told k p c) → p ≤ 70000
    go (ok q []) d f = never cc
    go (ok q (b ∷ rest)) d f =
        let m = (body_from 0 plain).goes s q (b ∷ rest) d in
        let z : end_at (length q.forms) (length q.policy) (length q.steps) ≡ p = cc in
        omega (arith, m.stands, within m.gone (b ∷ rest) m.parted, z)
    go (bad (told j i b)) d f =
        let m = (body_from 0 plain).stops s j i b d in
        let z : i ≡ p = cc in
        omega (arith, m.place, within m.before m.rest m.parted, z)
