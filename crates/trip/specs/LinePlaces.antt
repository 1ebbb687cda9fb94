-- Readers keep count of the lines: what is read is whole lines, a line's number is 1 and the LFs before it, and a refusal's place is the
-- line that met it, whatever stands behind that line. One law for each way to put readers together (for a line: `LinePlaces` of proofs/).
use Prim.Native.Nat.{ℕ, zero, suc, ◌+◌, ◌≤◌}
use Rattle.std.specs.Prelude.{◌≡◌, Bool, true, false, cond, eqb}
use Rattle.std.proofs.Math.Path.{refl, sym, ap}
use Rattle.std.proofs.Common.{◌∙◌, arith}
use mathlib.Core.List.{List, [], ◌∷◌, ◌++◌, append_assoc}
use Rattle.std.proofs.Math.ListN.{length, length-append}
use Rattle.scope.specs.Call.Answer.{told, further_down}
use Rattle.scope.specs.File.Line.{Read, ok, bad, Reader, parts, cut, and_then, ◌>>=◌, done, moved_down, further, many}
use Rattle.scope.specs.Tools.Tests.{never}
use Rattle.trip.specs.LineRefusals.{OfLine}
use Rattle.trip.specs.Several.{moved_back, bad_moved}

-- How many LFs stand in a text.
unfoldable pub lfs : List ℕ → ℕ
lfs [] = 0
lfs (b ∷ s) = cond (eqb b 10) (suc (lfs s)) (lfs s)

-- A text of whole lines: it is empty, or its last byte is an LF.
unfoldable pub whole : List ℕ → Bool
whole [] = true
whole (b ∷ []) = eqb b 10
whole (b ∷ c ∷ s) = whole (c ∷ s)

pub lfs_append : (s t : List ℕ) → lfs (s ++ t) ≡ lfs s + lfs t
unfolding lfs
lfs_append [] t = omega arith
lfs_append (b ∷ s) t = go (eqb b 10) (lfs_append s t)
  where
    go : (x : Bool) → lfs (s ++ t) ≡ lfs s + lfs t → cond x (suc (lfs (s ++ t))) (lfs (s ++ t)) ≡ cond x (suc (lfs s)) (lfs s) + lfs t
    go true ih = omega arith
    go false ih = ih

pub lfs_within : (s : List ℕ) → lfs s ≤ length s
unfolding lfs
lfs_within [] = omega arith
lfs_within (b ∷ s) = go (eqb b 10) (lfs_within s)
  where
    go : (x : Bool) → lfs s ≤ length s → cond x (suc (lfs s)) (lfs s) ≤ suc (length s)
    go true h = omega arith
    go false h = omega arith

pub whole_append : (s t : List ℕ) → whole s ≡ true → whole t ≡ true → whole (s ++ t) ≡ true
unfolding whole
whole_append [] t p q = q
whole_append (b ∷ []) [] p q = p
whole_append (b ∷ []) (c ∷ t) p q = q
whole_append (b ∷ c ∷ s) t p q = whole_append (c ∷ s) t p q

pub nothing_whole : whole [] ≡ true
unfolding whole
nothing_whole = refl

pub no_lf : lfs [] ≡ 0
unfolding lfs
no_lf = refl

-- A reader that begins at line i: what it reads is whole lines, behind which it stands at line `end a`, whatever follows; and where it
-- refuses, the place is the line.
pub record Gone {A : Type 0} (m : Reader A) (i : ℕ) (end : A → ℕ) (s : List ℕ) (a : A) (rest : List ℕ) : Type 0 where
  pub gone : List ℕ
  pub parted : s ≡ gone ++ rest
  pub lines : whole gone ≡ true
  pub stands : end a ≡ i + lfs gone
  pub whatever : (t : List ℕ) → m (gone ++ t) ≡ ok a t

pub record Stopped {A : Type 0} (m : Reader A) (i : ℕ) (s : List ℕ) (k j column : ℕ) : Type 0 where
  pub before : List ℕ
  pub rest : List ℕ
  pub parted : s ≡ before ++ rest
  pub lines : whole before ≡ true
  pub place : j ≡ i + lfs before
  pub number : OfLine k column
  pub short : m before ≡ bad (told 2 j 1)
  pub whatever : (l r : List ℕ) → cut 10 rest ≡ parts l r → (t : List ℕ) → m (before ++ (l ++ 10 ∷ t)) ≡ bad (told k j column)

pub record From {A : Type 0} (i : ℕ) (end : A → ℕ) (m : Reader A) : Type 0 where
  pub goes : (s : List ℕ) (a : A) (rest : List ℕ) → m s ≡ ok a rest → Gone m i end s a rest
  pub stops : (s : List ℕ) (k j column : ℕ) → m s ≡ bad (told k j column) → Stopped m i s k j column

-- One after the other: the second begins where the first ends.
module _ {A B : Type 0} {i : ℕ} {end : A → ℕ} {last : B → ℕ} {m : Reader A} {next : A → Reader B}
    (f : From i end m) (g : (a : A) → From (end a) last (next a)) where
  then_goes : (s : List ℕ) (b : B) (rest : List ℕ) (x : Read A) → m s ≡ x → and_then x next ≡ ok b rest → Gone (◌>>=◌ m next) i last s b rest
  unfolding and_then ◌>>=◌
  then_goes s b rest (bad a) d e = never cc
  then_goes s b rest (ok a mid) d e =
      let p = f.goes s a mid d in
      let q = (g a).goes mid b rest e in
      record {
        gone = p.gone ++ q.gone;
        parted = p.parted ∙ ap (λ t. p.gone ++ t) q.parted ∙ sym (append_assoc p.gone q.gone rest);
        lines = whole_append p.gone q.gone p.lines q.lines;
        stands = omega (arith, p.stands, q.stands, lfs_append p.gone q.gone);
        whatever = λ t. rw (append_assoc p.gone q.gone t, p.whatever (q.gone ++ t)) (q.whatever t);
      }

  then_stops : (s : List ℕ) (k j column : ℕ) (x : Read A) → m s ≡ x → and_then x next ≡ bad (told k j column) →
      Stopped (◌>>=◌ m next) i s k j column
  unfolding and_then ◌>>=◌
  then_stops s k j column (bad (told n h c)) d e =
      let y : n ≡ k = cc in
      let z : h ≡ j = cc in
      let x : c ≡ column = cc in
      let p = f.stops s k j column (cc (d, y, z, x)) in
      record {
        before = p.before;
        rest = p.rest;
        parted = p.parted;
        lines = p.lines;
        place = p.place;
        number = p.number;
        short = rw p.short refl;
        whatever = λ l r c t. rw (p.whatever l r c t) refl;
      }
  then_stops s k j column (ok a mid) d e =
      let p = f.goes s a mid d in
      let q = (g a).stops mid k j column e in
      record {
        before = p.gone ++ q.before;
        rest = q.rest;
        parted = p.parted ∙ ap (λ t. p.gone ++ t) q.parted ∙ sym (append_assoc p.gone q.before q.rest);
        lines = whole_append p.gone q.before p.lines q.lines;
        place = omega (arith, p.stands, q.place, lfs_append p.gone q.before);
        number = q.number;
        short = rw (p.whatever q.before) q.short;
        whatever =
            λ l r c t.
            rw (append_assoc p.gone q.before (l ++ 10 ∷ t), p.whatever (q.before ++ (l ++ 10 ∷ t)))
            (q.whatever l r c t);
      }

  pub then_from : From i last (◌>>=◌ m next)
  unfolding ◌>>=◌
  then_from =
      record { goes = λ s b rest e. then_goes s b rest (m s) refl e; stops = λ s k j c e. then_stops s k j c (m s) refl e }

-- Nothing more is read.
pub done_from : {A : Type 0} (a : A) (i : ℕ) (end : A → ℕ) → end a ≡ i → From i end (done a)
done_from a i end h =
    record {
      goes =
          λ s b rest e.
          let z : a ≡ b = cc in
          let y : s ≡ rest = cc in
          record {
            gone = [];
            parted = y;
            lines = nothing_whole;
            stands = rw (sym z) (omega (arith, no_lf));
            whatever = λ t. ap (λ x. ok x t) z;
          };
      stops = λ s k j c e. never cc;
    }

-- The same places by other names.
pub from_as : {A : Type 0} {i j : ℕ} {end last : A → ℕ} {m : Reader A} → i ≡ j → ((a : A) → last a ≡ end a) → From i end m → From j last m
from_as {i = i} {last = last} {m = m} e h f =
    let g : From i last m =
    record {
      goes =
          λ s a rest d.
          let g = f.goes s a rest d in
          record { gone = g.gone; parted = g.parted; lines = g.lines; stands = h a ∙ g.stands; whatever = g.whatever };
      stops = f.stops;
    } in
    rw e at g

-- And of what is read, where the reader says more of it.
pub from_told : {A : Type 0} {i : ℕ} {end last : A → ℕ} {m : Reader A} → ((s : List ℕ) (a : A) (rest : List ℕ) → m s ≡ ok a rest → last a ≡ end a) →
    From i end m → From i last m
from_told h f =
    record {
      goes =
          λ s a rest d.
          let g = f.goes s a rest d in
          record { gone = g.gone; parted = g.parted; lines = g.lines; stands = h s a rest d ∙ g.stands; whatever = g.whatever };
      stops = f.stops;
    }

-- Lines n lines further down.
module _ {A : Type 0} {i : ℕ} {end : A → ℕ} {m : Reader A} (n : ℕ) (f : From i end m) where
  further_stops : (s : List ℕ) (k j column : ℕ) → moved_down n (m s) ≡ bad (told k j column) → Stopped (further n m) (i + n) s k j column
  unfolding further moved_down further_down
  further_stops s k j column e =
      let d = bad_moved n (m s) k j column e in
      let z = d.lines in
      let p = f.stops s k d.above column d.is in
      record {
        before = p.before;
        rest = p.rest;
        parted = p.parted;
        lines = p.lines;
        place = omega (arith, p.place);
        number = p.number;
        short = rw p.short (ap (λ v. bad (told 2 v 1)) z);
        whatever = λ l r c t. rw (p.whatever l r c t) (ap (λ v. bad (told k v column)) z);
      }

  pub further_from : From (i + n) (λ a. end a + n) (further n m)
  unfolding further moved_down
  further_from =
      record {
        goes =
            λ s a rest e.
            let p = f.goes s a rest (moved_back n (m s) a rest e) in
            record {
              gone = p.gone;
              parted = p.parted;
              lines = p.lines;
              stands = omega (arith, p.stands);
              whatever = λ t. rw (p.whatever t) refl;
            };
        stops = λ s k j c e. further_stops s k j c e;
      }

-- Several things, the next one at the next line.
module _ {A : Type 0} (item : List A → Reader A) (i : ℕ) (each : (before : List A) → From (i + length before) (λ a. suc (i + length before)) (item before)) where
  pub many_from : (n : ℕ) (before : List A) → From (i + length before) (λ xs. i + length before + length xs) (many item n before)
  unfolding many
  many_from zero before = done_from [] (i + length before) _ (omega arith)
  many_from (suc n) before =
      then_from (each before) λ a.
      let h : length (before ++ (a ∷ [])) ≡ length before + 1 = length-append before (a ∷ []) in
      from_as (omega arith) (λ x. refl)
      (then_from (many_from n (before ++ (a ∷ []))) λ more.
      done_from (a ∷ more) (i + length (before ++ (a ∷ [])) + length more) _ (omega arith))
