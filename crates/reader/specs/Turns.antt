-- One turn of each loop over lines.
use Rattle.std.specs.Prelude.{ℕ, suc, ◌+◌, ◌-◌, ◌≤◌, ◌<◌, ◌≡◌, List, [], ◌∷◌, ◌++◌, length}
use Rattle.std.proofs.Math.Nat.{sub-zero}
use Rattle.std.proofs.Common.{arith, sym, ◌∙◌, length-append}
use Rattle.std.proofs.Math.Path.{refl, ap}
use Rattle.scope.specs.Call.Answer.{Answer}
use Rattle.scope.specs.File.Line.{ok, bad, Reader, many}
use Rattle.scope.specs.Call.Tables.{Entry, table}
use Rattle.lines.specs.Parts.{rest_of}
use Rattle.reader.specs.Answers.{Zero, ManyKept}
use Rattle.reader.specs.Many.{onto, many_more, many_stop, many_end, many_start, tail_length, rest_tail}
use Rattle.reader.specs.Stored.{table_none}

-- A text behind a line is no longer than the text.
pub rest_short : (s rest : List ℕ) → rest ≡ rest_of s → length rest ≤ length s
rest_short s rest e = omega (arith, ap length e, tail_length (rest_of s) s (rest_tail s))

-- A loop over n lines after i of them: the things read so far stand in the table, and what is left of the text gives the others.
pub record Turns {A : Type 0} (entry : Entry A) (item : List A → Reader A) (n : ℕ) (text numbers rest : List ℕ) (i : ℕ) : Type 0 where
  pub before : List A
  pub count : length before ≡ i
  pub stored : numbers ≡ table entry (length numbers) before
  pub whole : many item n [] text ≡ onto before (many item (n - i) before rest)

module _ {A : Type 0} (entry : Entry A) (item : List A → Reader A) (n : ℕ) (text : List ℕ) where
  pub turns_begin : (room : ℕ) (numbers : List ℕ) → Zero room numbers → Turns entry item n text numbers text 0
  turns_begin room numbers z =
      record {
        before = [];
        count = refl;
        stored = z.zero ∙ sym (table_none entry (length numbers));
        whole = rw (sub-zero n) (many_start item n text);
      }

  module _ {numbers rest : List ℕ} {i : ℕ} (k : Turns entry item n text numbers rest i) where
    pub turns_end : i ≡ n → ManyKept entry n (many item n [] text) rest numbers
    turns_end h =
        let f : n - i ≡ 0 = omega arith in
        record {
          things = k.before;
          is = k.whole ∙ ap (λ m. onto k.before (many item m k.before rest)) f ∙ many_end item k.before rest;
          count = k.count ∙ h;
          stored = k.stored;
        }

    module _ (h : i < n) where
      one_turn : many item n [] text ≡ onto k.before (many item (suc (n - (i + 1))) k.before rest)
      one_turn =
          let f : n - i ≡ suc (n - (i + 1)) = omega arith in
          k.whole ∙ ap (λ m. onto k.before (many item m k.before rest)) f

      pub turn_stops : (z : Answer) → item k.before rest ≡ bad z → many item n [] text ≡ bad z
      turn_stops z e = one_turn ∙ many_stop item (n - (i + 1)) k.before rest z e

      pub turn_more : (a : A) (behind more : List ℕ) → item k.before rest ≡ ok a behind → length more ≡ length numbers
          → more ≡ table entry (length numbers) (k.before ++ (a ∷ [])) → Turns entry item n text more behind (i + 1)
      turn_more a behind more e l d =
          record {
            before = k.before ++ (a ∷ []);
            count = omega (arith, length-append k.before (a ∷ []), k.count);
            stored = d ∙ ap (λ m. table entry m (k.before ++ (a ∷ []))) (sym l);
            whole = one_turn ∙ many_more item (n - (i + 1)) k.before rest behind a e;
          }
