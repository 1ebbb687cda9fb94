-- Readers one after the other, several of one kind, and a count with that many: each keeps the laws of `Reads`.
use Prim.Native.Nat.{ℕ, zero, suc, ◌+◌, ◌<◌, ◌≤◌}
use Rattle.std.specs.Prelude.{◌≡◌, take, get_or}
use Rattle.std.proofs.Math.Path.{refl, sym, ap}
use Rattle.std.proofs.Common.{◌∙◌}
use mathlib.Core.List.{List, [], ◌∷◌, ◌++◌, append_assoc, append-nil}
use native.Mathlib.Omega.{arith}
use Rattle.std.proofs.Math.ListN.{length, length-append}
use Rattle.scope.specs.Call.Answer.{told, further_down}
use Rattle.scope.specs.File.Line.{Line, Read, ok, bad, Reader, line, line_text, and_then, ◌>>=◌, done, moved_down, further, many, many_text, counted, counted_text}
use Rattle.scope.specs.Tools.Tests.{never}
use Rattle.trip.specs.Reads.{Reads}

pub record After {A B : Type 0} (x : Read A) (next : A → Reader B) (b : B) (rest : List ℕ) : Type 0 where
  pub first : A
  pub middle : List ℕ
  pub begun : x ≡ ok first middle
  pub ended : next first middle ≡ ok b rest

pub after_back : {A B : Type 0} (x : Read A) (next : A → Reader B) (b : B) (rest : List ℕ) → and_then x next ≡ ok b rest → After x next b rest
unfolding and_then
after_back (ok a r) next b rest e = record { first = a; middle = r; begun = refl; ended = e }
after_back (bad a) next b rest e = never cc

pub record Two (G H : Type 0) : Type 0 where
  pub one : G
  pub two : H

abbrev pub two : {G H : Type 0} → G → H → Two G H
two g h = record { one = g; two = h }

-- One after the other: the second may go by what the first read, and `part` finds that again in the whole.
pub seq_reads :
    {A B : Type 0} {m : Reader A} {next : A → Reader B} {first : A → List ℕ} {second : B → List ℕ} {G : A → Type 0} {H : A → B → Type 0}
    (part : B → A) → Reads m first G → ((a : A) → G a → Reads (next a) second (H a)) → ((a : A) (b : B) → G a → H a b → part b ≡ a)
    → Reads (◌>>=◌ m next) (λ b. first (part b) ++ second b) (λ b. Two (G (part b)) (H (part b) b))
unfolding ◌>>=◌
seq_reads {A} {B} {m} {next} {first} {second} {G} {H} part p q same =
    record {
      there =
          λ b rest g.
          rw
          (append_assoc (first (part b)) (second b) rest, p.there (part b) (second b ++ rest) g.one)
          ((q (part b) g.one).there b rest g.two);
      back =
          λ s b rest e.
          let d = after_back (m s) next b rest e in
          let g = p.good s d.first d.middle d.begun in
          let h = (q d.first g).good d.middle b rest d.ended in
          let x = p.back s d.first d.middle d.begun in
          let y = (q d.first g).back d.middle b rest d.ended in
          let z = same d.first b g h in
          x ∙ cc (y, z) ∙ sym (append_assoc (first (part b)) (second b) rest);
      good =
          λ s b rest e.
          let d = after_back (m s) next b rest e in
          let g = p.good s d.first d.middle d.begun in
          let h = (q d.first g).good d.middle b rest d.ended in
          let z = same d.first b g h in
          rw z (two g h);
    }

-- The end: nothing is written, and the thing is the one that was put together.
pub done_reads : {B : Type 0} (q : B) → Reads (done q) (λ b. []) (λ b. b ≡ q)
done_reads q = record { there = λ b rest g. ap (λ x. ok x rest) (sym g); back = λ s b rest e. cc; good = λ s b rest e. cc }

-- n things behind those before, each good behind the ones before it.
pub data Each {A : Type 0} (Good : List A → A → Type 0) : ℕ → List A → List A → Type 0 where
  none_left : {before : List A} → Each Good 0 before []
  one_more :
      {n : ℕ} {before : List A} {x : A} {xs : List A} → Good before x → Each Good n (before ++ (x ∷ [])) xs
      → Each Good (suc n) before (x ∷ xs)

pub each_length : {A : Type 0} {Good : List A → A → Type 0} {n : ℕ} {before xs : List A} → Each Good n before xs → length xs ≡ n
each_length none_left = refl
each_length (one_more g e) = ap suc (each_length e)

pub each_map :
    {A : Type 0} {G H : List A → A → Type 0} {n : ℕ} {before xs : List A} → ((b : List A) (x : A) → G b x → H b x) → Each G n before xs
    → Each H n before xs
each_map f none_left = none_left
each_map f (one_more {before = b} {x = x} g e) = one_more (f b x g) (each_map f e)

pub each_at :
    {A : Type 0} {Good : List A → A → Type 0} {n : ℕ} {before xs : List A} → Each Good n before xs → (d : A) (i : ℕ) → i < n
    → Good (before ++ take i xs) (get_or xs i d)
each_at none_left d i h = absurd (omega arith)
each_at (one_more g e) d zero h = rw append-nil g
each_at (one_more g e) d (suc i) h = rw append_assoc at (each_at e d i (omega arith))

module _
    {A : Type 0} (item : List A → Reader A) (text : A → List ℕ) (Good : List A → A → Type 0) (most : ℕ)
    (reads : (before : List A) → length before < most → Reads (item before) text (Good before)) where
  many_there :
      {n : ℕ} {before xs : List A} → Each Good n before xs → length before + n ≤ most → (rest : List ℕ)
      → many item n before (many_text text xs ++ rest) ≡ ok xs rest
  unfolding many many_text
  many_there none_left h rest = refl
  many_there (one_more {n = n} {before = before} {x = x} {xs = xs} g e) h rest =
      let l : length (before ++ (x ∷ [])) + n ≤ most = omega (arith, length-append before (x ∷ [])) in
      let d : length before < most = omega arith in
      rw
      (append_assoc (text x) (many_text text xs) rest, (reads before d).there x (many_text text xs ++ rest) g, many_there e l rest)
      refl

  record Many-back (n : ℕ) (before : List A) (s : List ℕ) (xs : List A) (rest : List ℕ) : Type 0 where
    is : s ≡ many_text text xs ++ rest
    each : Each Good n before xs

  many_back :
      (n : ℕ) (before : List A) (s : List ℕ) (xs : List A) (rest : List ℕ) → length before + n ≤ most → many item n before s ≡ ok xs rest
      → Many-back n before s xs rest
  unfolding many many_text
  many_back zero before s xs rest h e =
      let z : xs ≡ [] = cc in
      let r : s ≡ rest = cc in
      rw z (record { is = r; each = none_left })
  many_back (suc n) before s xs rest h e =
      let d = after_back (item before s) _ xs rest e in
      let x = d.first in
      let f = after_back (many item n (before ++ (x ∷ [])) d.middle) _ xs rest d.ended in
      let l : length (before ++ (x ∷ [])) + n ≤ most = omega (arith, length-append before (x ∷ [])) in
      let k : length before < most = omega arith in
      let more = many_back n (before ++ (x ∷ [])) d.middle f.first f.middle l f.begun in
      let g = (reads before k).good s x d.middle d.begun in
      let b = (reads before k).back s x d.middle d.begun in
      let z : xs ≡ x ∷ f.first = cc in
      let r : f.middle ≡ rest = cc in
      rw z
      (record {
        is = b ∙ ap (λ t. text x ++ t) (more.is ∙ ap (λ t. many_text text f.first ++ t) r) ∙ sym (append_assoc (text x) (many_text text f.first) rest);
        each = one_more g more.each;
      })

  pub many_reads : (n : ℕ) → n ≤ most → Reads (many item n []) (many_text text) (Each Good n [])
  many_reads n h =
      let l : length {A = A} [] + n ≤ most = omega arith in
      record {
        there = λ xs rest g. many_there g l rest;
        back = λ s xs rest e. (many_back n [] s xs rest l e).is;
        good = λ s xs rest e. (many_back n [] s xs rest l e).each;
      }

-- A count and that many things.
pub counted_reads :
    {A : Type 0} (l : Line ℕ) (refusal : ℕ → ℕ) (i : ℕ) (item : List A → Reader A) (it : Line A) (Good : List A → A → Type 0) (most : ℕ)
    → Reads (line l refusal i) (line_text l) (λ n. refusal n ≡ 0) → ((n : ℕ) → refusal n ≡ 0 → n ≤ most)
    → ((before : List A) → length before < most → Reads (item before) (line_text it) (Good before))
    → Reads (counted l refusal i item) (counted_text l it) (λ xs. Two (refusal (length xs) ≡ 0) (Each Good (length xs) [] xs))
unfolding counted counted_text
counted_reads l refusal i item it Good most count bound reads =
    seq_reads length count (λ n g. many_reads item (line_text it) Good most reads n (bound n g)) (λ n xs g e. each_length e)

-- Goodness by another name.
pub reads_as :
    {A : Type 0} {rd : Reader A} {text : A → List ℕ} {G H : A → Type 0} → Reads rd text G → ((a : A) → G a → H a) → ((a : A) → H a → G a)
    → Reads rd text H
reads_as p to from =
    record {
      there = λ a rest g. p.there a rest (from a g);
      back = p.back;
      good = λ s a rest e. to a (p.good s a rest e);
    }

-- The text by another name.
pub reads_text :
    {A : Type 0} {rd : Reader A} {text other : A → List ℕ} {G : A → Type 0} → ((a : A) → G a → text a ≡ other a) → Reads rd text G
    → Reads rd other G
reads_text {rd = rd} same p =
    record {
      there = λ a rest g. ap (λ t. rd (t ++ rest)) (sym (same a g)) ∙ p.there a rest g;
      back = λ s a rest e. p.back s a rest e ∙ ap (λ t. t ++ rest) (same a (p.good s a rest e));
      good = p.good;
    }

-- Lines further down are read alike.
pub moved_back : {A : Type 0} (n : ℕ) (x : Read A) (a : A) (rest : List ℕ) → moved_down n x ≡ ok a rest → x ≡ ok a rest
unfolding moved_down
moved_back n (ok b r) a rest e = e
moved_back n (bad b) a rest e = never cc

pub record Moved {A : Type 0} (n : ℕ) (x : Read A) (k j c : ℕ) : Type 0 where
  pub above : ℕ
  pub lines : above + n ≡ j
  pub is : x ≡ bad (told k above c)

pub bad_moved : {A : Type 0} (n : ℕ) (x : Read A) (k j c : ℕ) → moved_down n x ≡ bad (told k j c) → Moved n x k j c
unfolding moved_down further_down
bad_moved n (ok b r) k j c e = never cc
bad_moved n (bad (told m h d)) k j c e =
    let y : m ≡ k = cc in
    let z : d ≡ c = cc in
    record { above = h; lines = cc; is = rw (y, z) refl }

pub further_reads : {A : Type 0} {rd : Reader A} {text : A → List ℕ} {G : A → Type 0} (n : ℕ) → Reads rd text G → Reads (further n rd) text G
unfolding further moved_down
further_reads {rd = rd} n p =
    record {
      there = λ a rest g. rw (p.there a rest g) refl;
      back = λ s a rest e. p.back s a rest (moved_back n (rd s) a rest e);
      good = λ s a rest e. p.good s a rest (moved_back n (rd s) a rest e);
    }
