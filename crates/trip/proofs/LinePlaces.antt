-- A reader of one line stops at the line that it began at, and a reader of a count and its lines at the line that met the refusal
-- (`LinePlaces` of specs/ has the law and the other ways to put readers together).
use Prim.Native.Nat.{ℕ, zero, suc, ◌+◌}
use Rattle.std.specs.Prelude.{◌≡◌, Bool, true, false, cond, eqb}
use Rattle.std.proofs.Math.Path.{refl, sym, ap}
use Rattle.std.proofs.Common.{◌∙◌, arith}
use mathlib.Core.List.{List, [], ◌∷◌, ◌++◌, append_assoc}
use Rattle.std.proofs.Math.Option.{Option, none, some}
use Rattle.std.proofs.Math.ListN.{length}
use Rattle.scope.specs.Call.Answer.{told, column_for}
use Rattle.scope.specs.File.Line.{Line, Value, val, out, ok, bad, Reader, Cut, parts, uncut, cut, cut_after, strip, or_refused, shaped_as, valued, placed, line_of, line_stop, line, counted}
use Rattle.scope.specs.Tools.Tests.{never}
use Rattle.trip.specs.Cuts.{free, free_cons, free_one, cut_there, cut_back}
use Rattle.trip.specs.LineRefusals.{OfLine, shape, in_shape_lem, Mild, mild_column, shape_column}
use Rattle.trip.specs.LineStops.{OwnLine}
use Rattle.trip.specs.LinePlaces.{lfs, whole, nothing_whole, no_lf, Gone, Stopped, From, then_from, from_as, many_from}

-- A line and its LF.
one_lf : (l : List ℕ) → free 10 l ≡ true → lfs (l ++ 10 ∷ []) ≡ 1
unfolding lfs
one_lf [] f = refl
one_lf (b ∷ l) f = let c = free_cons 10 b l f in rw c.head (one_lf l c.tail)

whole_line : (l : List ℕ) → whole (l ++ 10 ∷ []) ≡ true
unfolding whole
whole_line [] = refl
whole_line (b ∷ []) = refl
whole_line (b ∷ c ∷ l) = whole_line (c ∷ l)

-- What stands before the first byte b has none.
cut_free : (b : ℕ) (u s t : List ℕ) → cut b u ≡ parts s t → free b s ≡ true
unfolding cut cut_after free
cut_free b [] s t e = never cc
cut_free b (c ∷ u) s t e = go (eqb c b) refl (cut b u) (λ r. cut_free b u r t) e
  where
    go :
        (x : Bool) → eqb c b ≡ x → (y : Cut) → ((r : List ℕ) → y ≡ parts r t → free b r ≡ true)
        → cond x (parts [] u) (cut_after c y) ≡ parts s t → free b s ≡ true
    go true p y ih e' = let n : s ≡ [] = cc in rw n refl
    go false p (parts v w) ih e' =
        let n : s ≡ c ∷ v = cc in
        let z : w ≡ t = cc in
        rw n (free_one b c v p (ih v (ap (λ x. parts v x) z)))
    go false p uncut ih e' = never cc

-- One line.
settled_mild : {A : Type 0} (n : ℕ) (a : A) (k c : ℕ) → Mild n → or_refused n a ≡ out k → OfLine k (column_for k (suc c))
unfolding or_refused
settled_mild zero a k c h e = never cc
settled_mild (suc n) a k c h e =
    let z : suc n ≡ k = cc in
    rw z at (in_shape_lem (h (omega arith)) (mild_column n (suc c) h))

module _ {A : Type 0} (l : Line A) (own : OwnLine l) (refusal : A → ℕ) (mild : (a : A) → Mild (refusal a)) (i : ℕ) where
  shaped_mild : (x : Option A) (k c : ℕ) → shaped_as refusal x ≡ out k → OfLine k (column_for k (suc c))
  unfolding shaped_as
  shaped_mild none k c e = shape_column k c (cc)
  shaped_mild (some a) k c e = settled_mild (refusal a) a k c (mild a) e

  valued_mild : (x : Option (List ℕ)) (k c : ℕ) → valued l refusal x ≡ out k → OfLine k (column_for k (suc c))
  unfolding valued
  valued_mild none k c e = shape_column k c (cc)
  valued_mild (some v) k c e = shaped_mild (l.shape.thing v) k c e

  -- A line whole, whatever stood or stands behind its LF.
  line_cut : (x t r : List ℕ) → free 10 x ≡ true →
      line l refusal i (x ++ 10 ∷ t) ≡ placed i (suc (line_stop l (x ++ 10 ∷ r))) (valued l refusal (strip l.key x)) t
  unfolding line line_of
  line_cut x t r f = rw (cut_there 10 x t f, own.own x t r f)

  pub line_missing : line l refusal i [] ≡ bad (told 2 i 1)
  unfolding line line_of cut
  line_missing = rw own.missing

  line_goes : (s : List ℕ) (a : A) (rest : List ℕ) (n : ℕ) (c : Cut) → cut 10 s ≡ c → line_of l refusal i n c ≡ ok a rest →
      Gone (line l refusal i) i (λ a. suc i) s a rest
  unfolding line_of placed
  line_goes s a rest n uncut d e = never cc
  line_goes s a rest n (parts x r) d e = go (valued l refusal (strip l.key x)) refl e
    where
      go : (v : Value A) → valued l refusal (strip l.key x) ≡ v → placed i n v r ≡ ok a rest → Gone (line l refusal i) i (λ a. suc i) s a rest
      go (out k) g e' = never cc
      go (val b) g e' =
          let z : b ≡ a = cc in
          let y : r ≡ rest = cc in
          let f = cut_free 10 s x r d in
          record {
            gone = x ++ 10 ∷ [];
            parted = cut_back 10 s x r d ∙ ap (λ u. x ++ 10 ∷ u) y ∙ sym (append_assoc x (10 ∷ []) rest);
            lines = whole_line x;
            stands = omega (arith, one_lf x f);
            whatever = λ t. rw (append_assoc x (10 ∷ []) t, line_cut x t r f, g, z);
          }

  line_stops : (s : List ℕ) (k j column : ℕ) (c : Cut) → cut 10 s ≡ c → line_of l refusal i (suc (line_stop l s)) c ≡ bad (told k j column) →
      Stopped (line l refusal i) i s k j column
  unfolding line_of placed
  line_stops s k j column uncut d e =
      let z : k ≡ 2 = cc in
      let y : i ≡ j = cc in
      let w : suc (line_stop l s) ≡ column = cc in
      record {
        before = [];
        rest = s;
        parted = refl;
        lines = nothing_whole;
        place = omega (arith, no_lf);
        number = shape z (omega arith);
        short = line_missing ∙ ap (λ n. bad (told 2 n 1)) y;
        whatever = λ x r g t. never cc;
      }
  line_stops s k j column (parts x r) d e = go (valued l refusal (strip l.key x)) refl e
    where
      go : (v : Value A) → valued l refusal (strip l.key x) ≡ v → placed i (suc (line_stop l s)) v r ≡ bad (told k j column) →
          Stopped (line l refusal i) i s k j column
      go (val a) g e' = never cc
      go (out n) g e' =
          let z : n ≡ k = cc in
          let y : i ≡ j = cc in
          let w : column_for n (suc (line_stop l s)) ≡ column = cc in
          let f = cut_free 10 s x r d in
          record {
            before = [];
            rest = s;
            parted = refl;
            lines = nothing_whole;
            place = omega (arith, no_lf);
            number = rw (w, z) at (valued_mild (strip l.key x) n (line_stop l s) g);
            short = line_missing ∙ ap (λ n. bad (told 2 n 1)) y;
            whatever =
                λ u r' h t.
                let v : x ≡ u = cc in
                let b : line_stop l s ≡ line_stop l (x ++ 10 ∷ r) = ap (line_stop l) (cut_back 10 s x r d) in
                rw (sym v, line_cut x t r f, g, ← b, w, z, y);
          }

  pub line_from : From i (λ a. suc i) (line l refusal i)
  unfolding line
  line_from =
      record { goes = λ s a rest e. line_goes s a rest (suc (line_stop l s)) (cut 10 s) refl e; stops = λ s k j c e. line_stops s k j c (cut 10 s) refl e }

-- A count and that many things.
pub counted_from : {A : Type 0} (l : Line ℕ) → OwnLine l → (refusal : ℕ → ℕ) → ((n : ℕ) → Mild (refusal n)) → (i : ℕ) (item : List A → Reader A) →
    ((before : List A) → From (suc i + length before) (λ a. suc (suc i + length before)) (item before)) →
    From i (λ xs. suc i + length xs) (counted l refusal i item)
unfolding counted
counted_from l own refusal mild i item each =
    then_from (line_from l own refusal mild i) λ n. from_as (omega arith) (λ xs. omega arith) (many_from item (suc i) each n [])
