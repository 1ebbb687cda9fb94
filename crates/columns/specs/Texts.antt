-- The column of a whole text: a text refused 2 at a line has there the column declared of the right shape for that place, which is what may
-- stand behind the lines before it without being refused 2. One law for a line and for each way to put readers together.
use Prim.Native.Nat.{ℕ, zero, suc, ◌+◌, ◌≤◌, ◌<◌}
use Rattle.std.specs.Prelude.{◌≡◌, Bool, true, false, cond, eqb}
use Rattle.std.proofs.Math.Path.{refl, sym, ap}
use Rattle.std.proofs.Common.{◌∙◌, arith}
use mathlib.Core.List.{List, [], ◌∷◌, ◌++◌, append_assoc, append-nil}
use Rattle.std.proofs.Math.Option.{Option, none, some}
use Rattle.std.proofs.Math.ListN.{length, length-append}
use Rattle.scope.specs.Call.Answer.{told, column_for, further_down}
use Rattle.scope.specs.File.Line.{Line, Value, val, out, Read, ok, bad, Reader, Cut, parts, uncut, cut, strip, shaped_as, valued, placed, line_of, line_stop, line, and_then, ◌>>=◌, done, moved_down, further, many, counted}
use Rattle.scope.specs.File.Column.{InShape, Stops, early, cannot, Column}
use Rattle.scope.specs.Tools.Tests.{never}
use Rattle.trip.specs.Cuts.{strip_back}
use Rattle.trip.specs.LineRefusals.{Mild}
use Rattle.trip.specs.LineStops.{OwnLine}
use Rattle.trip.specs.LinePlaces.{lfs, whole, lfs_append, whole_append, nothing_whole, no_lf, From, then_from, done_from, from_as, from_told, further_from}
use Rattle.trip.proofs.LinePlaces.{line_missing, line_from}
use Rattle.trip.specs.Several.{bad_moved}
use Rattle.columns.specs.Unique.{Prefix, shorter, alike, longer, compared}
use Rattle.columns.specs.Refused.{ended_read}
use Rattle.columns.specs.Lines.{Told, mild_not_two}

-- A line that may stand behind `before` at place j: its LF is its only one and its last byte, and it is not refused 2 there.
pub record Right {A : Type 0} (m : Reader A) (before : List ℕ) (j : ℕ) (t : List ℕ) : Type 0 where
  pub bytes : List ℕ
  pub ended : cut 10 t ≡ parts bytes []
  pub shaped : (c : ℕ) → ¬ (m (before ++ t) ≡ bad (told 2 j c))

pub record At {A : Type 0} (m : Reader A) (i : ℕ) (s : List ℕ) (j c : ℕ) : Type 0 where
  pub before : List ℕ
  pub rest : List ℕ
  pub parted : s ≡ before ++ rest
  pub lines : whole before ≡ true
  pub place : j ≡ i + lfs before
  pub short : m before ≡ bad (told 2 j 1)
  pub column : Column (Right m before j) rest c
  pub few : c ≤ 22

-- A reader that begins at line i, whose every 2 is at its line's column.
pub record Columned {A : Type 0} (m : Reader A) (i : ℕ) : Type 0 where
  pub columns : (s : List ℕ) (j c : ℕ) → m s ≡ bad (told 2 j c) → At m i s j c

-- The same texts, the same column.
pub column_alike :
    {P Q : List ℕ → Type 0} {s : List ℕ} {n : ℕ} → ((t : List ℕ) → P t → Q t) → ((t : List ℕ) → Q t → P t) → Column P s n → Column Q s n
column_alike {P} {Q} to from c =
    record {
      before = c.before;
      after = c.after;
      text = c.text;
      column = c.column;
      unended = c.unended;
      goes = record { continued = c.goes.continued; whole = to _ c.goes.whole };
      stops = go c.before c.stops;
    }
  where
    go : (p : List ℕ) {a : List ℕ} → Stops P p a → Stops Q p a
    go p early = early
    go p (cannot n) = cannot (λ g. n (record { continued = g.continued; whole = from _ g.whole }))

-- One line.
module _ {A : Type 0} (l : Line A) (own : OwnLine l) (d : Told l) (refusal : A → ℕ) (mild : (a : A) → Mild (refusal a)) (i : ℕ) where
  line_place : (s : List ℕ) (k j c : ℕ) → line l refusal i s ≡ bad (told k j c) → j ≡ i
  unfolding line line_of placed
  line_place s k j c e = go (cut 10 s) e
    where
      value : (v : Value A) (n : ℕ) (rest : List ℕ) → placed i n v rest ≡ bad (told k j c) → j ≡ i
      value (val a) n rest h = never cc
      value (out m) n rest h = cc

      go : (x : Cut) → line_of l refusal i (suc (line_stop l s)) x ≡ bad (told k j c) → j ≡ i
      go uncut h = cc
      go (parts u rest) h = value (valued l refusal (strip l.key u)) (suc (line_stop l s)) rest h

  shape_right : (t : List ℕ) → InShape l t → Right (line l refusal i) [] i t
  shape_right t g =
      record {
        bytes = l.key ++ g.value;
        ended = g.ends;
        shaped =
            λ c e.
            ended_read l refusal i c t [] (l.key ++ g.value) [] (λ a. mild_not_two (refusal a) (mild a)) g.ends
            (record { continued = []; whole = rw (append-nil t) g }) (rw (append-nil t) e);
      }

  right_shape : (t : List ℕ) → Right (line l refusal i) [] i t → InShape l t
  unfolding line line_of placed column_for valued shaped_as
  right_shape t r = keyed (strip l.key r.bytes) refl
    where
      two : (c : ℕ) → placed i (suc (line_stop l t)) (valued l refusal (strip l.key r.bytes)) [] ≡ bad (told 2 i c) → ⊥
      two c e = r.shaped c (rw r.ended e)

      shaped : (v : List ℕ) → strip l.key r.bytes ≡ some v → (x : Option A) → l.shape.thing v ≡ x → InShape l t
      shaped v k none h = absurd (two (suc (line_stop l t)) (rw (k, h) refl))
      shaped v k (some a) h =
          record { value = v; thing = a; ends = r.ended ∙ ap (λ w. parts w []) (strip_back l.key r.bytes v k); shaped = h }

      keyed : (x : Option (List ℕ)) → strip l.key r.bytes ≡ x → InShape l t
      keyed none k = absurd (two (suc (line_stop l t)) (rw k refl))
      keyed (some v) k = shaped v k (l.shape.thing v) refl

  pub line_columned : Columned (line l refusal i) i
  line_columned =
      record {
        columns =
            λ s j c e.
            let z = line_place s 2 j c e in
            let f : line l refusal i s ≡ bad (told 2 i c) = rw z at e in
            let k = d.refused refusal i c s mild f in
            rw z
            record {
              before = [];
              rest = s;
              parted = refl;
              lines = nothing_whole;
              place = omega (arith, no_lf);
              short = line_missing l own refusal mild i;
              column = column_alike shape_right right_shape k;
              few = d.small s c k;
            };
      }

-- Whole lines behind others are whole, and have an LF.
whole_behind : (p : List ℕ) (b : ℕ) (r : List ℕ) → whole (p ++ b ∷ r) ≡ true → whole (b ∷ r) ≡ true
unfolding whole
whole_behind [] b r e = e
whole_behind (a ∷ []) b r e = e
whole_behind (a ∷ c ∷ p) b r e = whole_behind (c ∷ p) b r e

some_lf : (b : ℕ) (r : List ℕ) → whole (b ∷ r) ≡ true → 0 < lfs (b ∷ r)
unfolding whole lfs
some_lf b [] e = rw e (omega arith)
some_lf b (c ∷ r) e = go (eqb b 10) (some_lf c r e)
  where
    go : (x : Bool) → 0 < lfs (c ∷ r) → 0 < cond x (suc (lfs (c ∷ r))) (lfs (c ∷ r))
    go true h = omega arith
    go false h = h

record Begun (gone before : List ℕ) : Type 0 where
  more : List ℕ
  is : before ≡ gone ++ more

-- Whole lines of the same text: those with no more LFs begin the others.
begun : (gone before r t : List ℕ) → whole gone ≡ true → gone ++ r ≡ before ++ t → lfs gone ≤ lfs before → Begun gone before
begun gone before r t w e h = go (compared gone before r t e)
  where
    go : Prefix gone before → Begun gone before
    go (shorter b x z) = record { more = b ∷ x; is = z }
    go (alike z) = record { more = []; is = sym z ∙ sym (append-nil gone) }
    go (longer b x z) =
        let k = some_lf b x (whole_behind before b x (rw z at w)) in
        let n : lfs gone ≡ lfs before + lfs (b ∷ x) = ap lfs z ∙ lfs_append before (b ∷ x) in
        absurd (omega (arith, k, n))

-- One after the other.
module _ {A B : Type 0} {i : ℕ} {end : A → ℕ} {last : B → ℕ} {m : Reader A} {next : A → Reader B}
    (f : From i end m) (g : (a : A) → From (end a) last (next a)) (p : Columned m i) (q : (a : A) → Columned (next a) (end a)) where
  -- What the first reads past its own refusal is not refused at that line by the second.
  first_right : (before : List ℕ) (j : ℕ) → j ≡ i + lfs before → m before ≡ bad (told 2 j 1) → (t : List ℕ) →
      Right m before j t → Right (◌>>=◌ m next) before j t
  unfolding ◌>>=◌ and_then
  first_right before j place short t r =
      record { bytes = r.bytes; ended = r.ended; shaped = λ c e. go c (m (before ++ t)) refl e }
    where
      go : (c : ℕ) (x : Read A) → m (before ++ t) ≡ x → and_then x next ≡ bad (told 2 j c) → ⊥
      go c (bad z) d e =
          let y : z ≡ told 2 j c = cc in
          r.shaped c (d ∙ ap {B = Read A} bad y)
      go c (ok a mid) d e =
          let n = f.goes (before ++ t) a mid d in
          let k = (g a).stops mid 2 j c e in
          let h : lfs n.gone ≤ lfs before = omega (arith, place, n.stands, k.place) in
          let b = begun n.gone before mid t n.lines (sym n.parted) h in
          let o : m before ≡ ok a b.more = ap m b.is ∙ n.whatever b.more in
          never cc

  right_first : (before : List ℕ) (j : ℕ) (t : List ℕ) → Right (◌>>=◌ m next) before j t → Right m before j t
  unfolding ◌>>=◌ and_then
  right_first before j t r =
      record { bytes = r.bytes; ended = r.ended; shaped = λ c e. r.shaped c (rw e refl) }

  then_columns : (s : List ℕ) (j c : ℕ) (x : Read A) → m s ≡ x → and_then x next ≡ bad (told 2 j c) → At (◌>>=◌ m next) i s j c
  unfolding ◌>>=◌ and_then
  then_columns s j c (bad z) d e =
      let y : z ≡ told 2 j c = cc in
      let a = p.columns s j c (d ∙ ap {B = Read A} bad y) in
      record {
        before = a.before;
        rest = a.rest;
        parted = a.parted;
        lines = a.lines;
        place = a.place;
        short = rw a.short refl;
        column = column_alike (first_right a.before j a.place a.short) (right_first a.before j) a.column;
        few = a.few;
      }
  then_columns s j c (ok a mid) d e =
      let n = f.goes s a mid d in
      let k = (q a).columns mid j c e in
      record {
        before = n.gone ++ k.before;
        rest = k.rest;
        parted = n.parted ∙ ap (λ t. n.gone ++ t) k.parted ∙ sym (append_assoc n.gone k.before k.rest);
        lines = whole_append n.gone k.before n.lines k.lines;
        place = omega (arith, n.stands, k.place, lfs_append n.gone k.before);
        short = rw (n.whatever k.before) k.short;
        column =
            column_alike
            (λ t r.
            record {
              bytes = r.bytes;
              ended = r.ended;
              shaped = λ c e. r.shaped c (sym (rw (append_assoc n.gone k.before t, n.whatever (k.before ++ t)) refl) ∙ e);
            })
            (λ t r.
            record {
              bytes = r.bytes;
              ended = r.ended;
              shaped = λ c e. r.shaped c (rw (append_assoc n.gone k.before t, n.whatever (k.before ++ t)) e);
            })
            k.column;
        few = k.few;
      }

  pub then_columned : Columned (◌>>=◌ m next) i
  unfolding ◌>>=◌
  then_columned = record { columns = λ s j c e. then_columns s j c (m s) refl e }

pub done_columned : {A : Type 0} (a : A) (i : ℕ) → Columned (done a) i
done_columned a i = record { columns = λ s j c e. never cc }

-- A reader with the places of its lines and the columns of its refusals.
pub record Lined {A : Type 0} (m : Reader A) (i : ℕ) (end : A → ℕ) : Type 0 where
  pub from : From i end m
  pub columned : Columned m i

pub line_lined :
    {A : Type 0} (l : Line A) → OwnLine l → Told l → (refusal : A → ℕ) → ((a : A) → Mild (refusal a)) → (i : ℕ)
    → Lined (line l refusal i) i (λ a. suc i)
line_lined l own d refusal mild i =
    record { from = line_from l own refusal mild i; columned = line_columned l own d refusal mild i }

pub then_lined :
    {A B : Type 0} {i : ℕ} {end : A → ℕ} {last : B → ℕ} {m : Reader A} {next : A → Reader B} → Lined m i end
    → ((a : A) → Lined (next a) (end a) last) → Lined (◌>>=◌ m next) i last
then_lined f g =
    record {
      from = then_from f.from (λ a. (g a).from);
      columned = then_columned f.from (λ a. (g a).from) f.columned (λ a. (g a).columned);
    }

pub done_lined : {A : Type 0} (a : A) (i : ℕ) (end : A → ℕ) → end a ≡ i → Lined (done a) i end
done_lined a i end h = record { from = done_from a i end h; columned = done_columned a i }

pub lined_as : {A : Type 0} {i j : ℕ} {end last : A → ℕ} {m : Reader A} → i ≡ j → ((a : A) → last a ≡ end a) → Lined m i end → Lined m j last
lined_as {m = m} e h f = record { from = from_as e h f.from; columned = rw e at f.columned }

pub lined_told :
    {A : Type 0} {i : ℕ} {end last : A → ℕ} {m : Reader A} → ((s : List ℕ) (a : A) (rest : List ℕ) → m s ≡ ok a rest → last a ≡ end a)
    → Lined m i end → Lined m i last
lined_told h f = record { from = from_told h f.from; columned = f.columned }

-- Lines n lines further down.
module _ {A : Type 0} {i : ℕ} {m : Reader A} (n : ℕ) (p : Columned m i) where
  down_right : (before : List ℕ) (h : ℕ) (t : List ℕ) → Right m before h t → Right (further n m) before (h + n) t
  unfolding further
  down_right before h t r =
      record {
        bytes = r.bytes;
        ended = r.ended;
        shaped =
            λ c e.
            let d = bad_moved n (m (before ++ t)) 2 (h + n) c e in
            let z : d.above ≡ h = omega (arith, d.lines) in
            r.shaped c (d.is ∙ ap (λ v. bad (told 2 v c)) z);
      }

  right_down : (before : List ℕ) (h : ℕ) (t : List ℕ) → Right (further n m) before (h + n) t → Right m before h t
  unfolding further moved_down further_down
  right_down before h t r = record { bytes = r.bytes; ended = r.ended; shaped = λ c e. r.shaped c (rw e refl) }

  further_columns : (s : List ℕ) (j c : ℕ) → moved_down n (m s) ≡ bad (told 2 j c) → At (further n m) (i + n) s j c
  unfolding further moved_down further_down
  further_columns s j c e =
      let d = bad_moved n (m s) 2 j c e in
      let a = p.columns s d.above c d.is in
      rw (sym d.lines)
      (record {
        before = a.before;
        rest = a.rest;
        parted = a.parted;
        lines = a.lines;
        place = omega (arith, a.place);
        short = rw a.short refl;
        column = column_alike (down_right a.before d.above) (right_down a.before d.above) a.column;
        few = a.few;
      })

  pub further_columned : Columned (further n m) (i + n)
  unfolding further
  further_columned = record { columns = λ s j c e. further_columns s j c e }

pub further_lined : {A : Type 0} {i : ℕ} {end : A → ℕ} {m : Reader A} (n : ℕ) → Lined m i end → Lined (further n m) (i + n) (λ a. end a + n)
further_lined n f = record { from = further_from n f.from; columned = further_columned n f.columned }

module _
    {A : Type 0} (item : List A → Reader A) (i : ℕ)
    (each : (before : List A) → Lined (item before) (i + length before) (λ a. suc (i + length before))) where
  many_lined : (n : ℕ) (before : List A) → Lined (many item n before) (i + length before) (λ xs. i + length before + length xs)
  unfolding many
  many_lined zero before = done_lined [] (i + length before) _ (omega arith)
  many_lined (suc n) before =
      then_lined (each before) λ a.
      let h : length (before ++ (a ∷ [])) ≡ length before + 1 = length-append before (a ∷ []) in
      lined_as (omega arith) (λ x. refl)
      (then_lined (many_lined n (before ++ (a ∷ []))) λ more.
      done_lined (a ∷ more) (i + length (before ++ (a ∷ [])) + length more) _ (omega arith))

pub counted_lined :
    {A : Type 0} (l : Line ℕ) → OwnLine l → Told l → (refusal : ℕ → ℕ) → ((n : ℕ) → Mild (refusal n)) → (i : ℕ) (item : List A → Reader A)
    → ((before : List A) → Lined (item before) (suc i + length before) (λ a. suc (suc i + length before)))
    → Lined (counted l refusal i item) i (λ xs. suc i + length xs)
unfolding counted
counted_lined l own d refusal mild i item each =
    then_lined (line_lined l own d refusal mild i) λ n. lined_as (omega arith) (λ xs. omega arith) (many_lined item (suc i) each n [])
