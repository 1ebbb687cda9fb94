-- One turn over `form=` lines: the rows read so far stand in the table, and the slots keep them.
use Rattle.std.specs.Prelude.{ℕ, suc, ◌+◌, ◌*◌, ◌≤◌, ◌<◌, ◌≡◌, List, [], ◌∷◌, ◌++◌, length, replicate}
use Rattle.std.proofs.Common.{arith, add-one, sym, ◌∙◌, length-append, length-set}
use Rattle.std.proofs.Math.Path.{ap}
use Rattle.scope.specs.Logic.Form.{negate}
use Rattle.scope.specs.Call.Answer.{Answer}
use Rattle.scope.specs.File.Request.{Row}
use Rattle.scope.specs.File.Line.{ok, bad, line, many}
use Rattle.scope.specs.File.Text.{form_line}
use Rattle.scope.specs.Call.Tables.{unpack, form_entry, table}
use Rattle.scope.specs.File.Kinds.{form_kinds}
use Rattle.scope.specs.Limits.{most_formulas, form_at}
use Rattle.scope.specs.File.Refusals.{demand, row_refusal, is_among, first_of, form_refusal}
use Rattle.scope.specs.File.Reader.{form_item}
use Rattle.common.specs.Rows.{as_row, row_put}
use Rattle.common.specs.declared.rows.Row.{Row as Held}
use Rattle.numbering.specs.Slots.{most_slots}
use Rattle.numbering.specs.Numbered.{Numbered, numbered_none}
use Rattle.numbering.specs.Refused.{repeat_told, neither_refused}
use Rattle.numbering.proofs.Refused.{fresh_kept}
use Rattle.reader.specs.Answers.{Zero}
use Rattle.reader.specs.Lines.{no_form, line_passed}
use Rattle.reader.specs.NewRows.{asked_row, slots_with}
use Rattle.reader.specs.Stored.{form_more, unpack_table}
use Rattle.reader.specs.Turns.{Turns, turns_begin, turn_stops, turn_more}

pub record FormTurns (principals atoms n : ℕ) (text numbers slots rest : List ℕ) (i : ℕ) : Type 0 where
  pub turns : Turns form_entry (form_item principals atoms) n text numbers rest i
  pub keeps : Numbered numbers i slots

pub forms_begin : (room principals atoms n : ℕ) (text numbers : List ℕ) → Zero room numbers →
    FormTurns principals atoms n text numbers (replicate most_slots 0) text 0
forms_begin room principals atoms n text numbers z =
    record { turns = turns_begin form_entry (form_item principals atoms) n text room numbers z; keeps = numbered_none numbers }

module _ {principals atoms n : ℕ} {text numbers slots s : List ℕ} {i : ℕ} (t : FormTurns principals atoms n text numbers slots s i) where
  abbrev k : Turns form_entry (form_item principals atoms) n text numbers s i
  k = t.turns

  rows_are : unpack form_entry i numbers ≡ k.before
  rows_are = ap (unpack form_entry i) k.stored ∙ unpack_table (length numbers) k.before i (sym k.count)

  -- What the code asks of a row is what is asked of it behind the rows before it.
  asked_is : (r : Row) → asked_row principals atoms i numbers slots r ≡ form_refusal principals atoms k.before r
  unfolding form_refusal
  asked_is r =
      ap (first_of (row_refusal form_kinds principals atoms i r))
      (repeat_told numbers i slots t.keeps r ∙ ap (λ rows. demand (negate (is_among r rows)) 15 0) rows_are) ∙
      ap (λ m. first_of (row_refusal form_kinds principals atoms m r) (demand (negate (is_among r k.before)) 15 0)) (sym k.count)

  item_is : line form_line (asked_row principals atoms i numbers slots) (form_at i) s ≡ form_item principals atoms k.before s
  item_is =
      (λ j. line form_line (λ r. asked_is r j) (form_at i) s) ∙
      ap (λ m. line form_line (form_refusal principals atoms k.before) (form_at m) s) (sym k.count)

  module _ (h : i < n) where
    pub form_stops : (z : Answer) → line form_line (asked_row principals atoms i numbers slots) (form_at i) s ≡ bad z
        → many (form_item principals atoms) n [] text ≡ bad z
    form_stops z e = turn_stops form_entry (form_item principals atoms) n text k h z (sym item_is ∙ e)

    -- The row stands behind those before it, and the slots keep it too.
    module _ (r : Held) (behind : List ℕ) (e : line form_line (asked_row principals atoms i numbers slots) (form_at i) s ≡ ok (as_row r) behind)
        (few : i < most_formulas) (room : 3 * most_formulas ≤ length numbers) where
      stored : row_put numbers i r ≡ table form_entry (length numbers) (k.before ++ (as_row r ∷ []))
      unfolding row_put
      stored = form_more (length numbers) numbers (3 * i) k.before r.kind r.left r.right k.stored (omega (arith, k.count)) (omega arith)

      long : length (row_put numbers i r) ≡ length numbers
      unfolding row_put
      long = simp length-set

      rows_more : unpack form_entry (suc i) (row_put numbers i r) ≡ unpack form_entry i numbers ++ (as_row r ∷ [])
      rows_more =
          let count : suc i ≡ length (k.before ++ (as_row r ∷ [])) = omega (arith, length-append k.before (as_row r ∷ []), k.count) in
          ap (unpack form_entry (suc i)) stored ∙
          unpack_table (length numbers) (k.before ++ (as_row r ∷ [])) (suc i) count ∙ ap (λ b. b ++ (as_row r ∷ [])) (sym rows_are)

      fresh : (asked_row principals atoms i numbers slots (as_row r)) ≡ 0
      fresh = line_passed form_line (asked_row principals atoms i numbers slots) (form_at i) s no_form (as_row r) behind e

      pub form_turn : (after : List ℕ) → after ≡ slots_with numbers i slots r →
          FormTurns principals atoms n text (row_put numbers i r) after behind (i + 1)
      form_turn after kept =
          record {
            turns = turn_more form_entry (form_item principals atoms) n text k h (as_row r) behind (row_put numbers i r) (sym item_is ∙ e) long stored;
            keeps = rw (kept, add-one i) (fresh_kept numbers i slots t.keeps (as_row r) (neither_refused _ _ fresh).1 _ few rows_more);
          }
