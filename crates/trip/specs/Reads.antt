-- The shape of the round trip: a reader, a text and what is good, held together by three laws; and one law for each way to put readers
-- together. Refusals and line numbers are free: the laws speak of what is read well.
use Rattle.std.specs.Prelude.{ℕ, zero, suc, ◌≡◌, refl, List, [], ◌∷◌, ◌++◌, true}
use Rattle.std.proofs.Common.{ap, append_assoc}
use Rattle.std.proofs.Math.Option.{Option, none, some}
use Rattle.scope.specs.File.Line.{Shape, Line, Value, val, out, ok, Reader, Cut, parts, uncut, cut, strip, or_refused, shaped_as, valued, placed, line_of, line_stop, line, line_text}
use Rattle.scope.specs.Tools.Tests.{never}
use Rattle.trip.specs.Cuts.{free, free_append, cut_there, cut_back, strip_there, strip_back}

-- Of the shape of a value: what is fine to write.
pub record Shaped {A : Type 0} (shape : Shape A) (Fine : A → Type 0) : Type 0 where
  pub there : (a : A) → Fine a → shape.thing (shape.text a) ≡ some a
  pub back : (s : List ℕ) (a : A) → shape.thing s ≡ some a → s ≡ shape.text a
  pub clean : (a : A) → Fine a → free 10 (shape.text a) ≡ true

-- Of a reader: written, then anything, it reads back; what it reads is the text, and good.
pub record Reads {A : Type 0} (rd : Reader A) (text : A → List ℕ) (Good : A → Type 0) : Type 0 where
  pub there : (a : A) (rest : List ℕ) → Good a → rd (text a ++ rest) ≡ ok a rest
  pub back : (s : List ℕ) (a : A) (rest : List ℕ) → rd s ≡ ok a rest → s ≡ text a ++ rest
  pub good : (s : List ℕ) (a : A) (rest : List ℕ) → rd s ≡ ok a rest → Good a

-- What was read well had no refusal.
settled_back : {A : Type 0} (k : ℕ) (b a : A) → or_refused k b ≡ val a → (k ≡ 0) × (b ≡ a)
unfolding or_refused
settled_back zero b a e = (refl, cc)
settled_back (suc k) b a e = never cc

judged_back : {A : Type 0} (refusal : A → ℕ) (x : Option A) (a : A) → shaped_as refusal x ≡ val a → (x ≡ some a) × (refusal a ≡ 0)
unfolding shaped_as
judged_back refusal none a e = never cc
judged_back refusal (some b) a e =
    let p = settled_back (refusal b) b a e in
    (ap (λ y. some y) p.1, cc (p.0, p.1))

valued_back :
    {A : Type 0} (l : Line A) (refusal : A → ℕ) (x : Option (List ℕ)) (a : A) → valued l refusal x ≡ val a
    → (v : List ℕ) × (x ≡ some v) × (l.shape.thing v ≡ some a) × (refusal a ≡ 0)
unfolding valued
valued_back l refusal none a e = never cc
valued_back l refusal (some v) a e =
    let p = judged_back refusal (l.shape.thing v) a e in
    (v, refl, p.0, p.1)

placed_back : {A : Type 0} (i column : ℕ) (x : Value A) (r : List ℕ) (a : A) (rest : List ℕ) → placed i column x r ≡ ok a rest → (x ≡ val a) × (r ≡ rest)
unfolding placed
placed_back i column (val b) r a rest e = (cc, cc)
placed_back i column (out k) r a rest e = never cc

record LineRead {A : Type 0} (l : Line A) (refusal : A → ℕ) (x : Cut) (a : A) (rest : List ℕ) : Type 0 where
  before : List ℕ
  value : List ℕ
  cutting : x ≡ parts before rest
  stripped : strip l.key before ≡ some value
  read : l.shape.thing value ≡ some a
  unrefused : refusal a ≡ 0

line_read : {A : Type 0} (l : Line A) (refusal : A → ℕ) (i column : ℕ) (x : Cut) (a : A) (rest : List ℕ) → line_of l refusal i column x ≡ ok a rest → LineRead l refusal x a rest
unfolding line_of
line_read l refusal i column uncut a rest e = never cc
line_read l refusal i column (parts s r) a rest e =
    let p = placed_back i column (valued l refusal (strip l.key s)) r a rest e in
    let v = valued_back l refusal (strip l.key s) a p.0 in
    record { before = s; value = v.0; cutting = ap (λ t. parts s t) p.1; stripped = v.1; read = v.2; unrefused = v.3 }

-- One line.
pub line_reads :
    {A : Type 0} {Fine : A → Type 0} (l : Line A) (refusal : A → ℕ) (i : ℕ) → free 10 l.key ≡ true → Shaped l.shape Fine
    → ((a : A) → refusal a ≡ 0 → Fine a) → Reads (line l refusal i) (line_text l) (λ a. refusal a ≡ 0)
unfolding line line_text
line_reads {A} l refusal i f c fine = record { there = reads; back = texts; good = goods }
  where
    reads : (a : A) (rest : List ℕ) → refusal a ≡ 0 → line l refusal i (line_text l a ++ rest) ≡ ok a rest
    reads a rest g =
        let t = l.shape.text a in
        let k = cut_there 10 (l.key ++ t) rest (free_append 10 l.key t f (c.clean a (fine a g))) in
        let b : l.key ++ t ++ (10 ∷ []) ++ rest ≡ l.key ++ t ++ 10 ∷ rest = append_assoc (l.key ++ t) (10 ∷ []) rest in
        rw (b, k, strip_there l.key t, c.there a (fine a g), g)

    texts : (s : List ℕ) (a : A) (rest : List ℕ) → line l refusal i s ≡ ok a rest → s ≡ line_text l a ++ rest
    texts s a rest e =
        let d = line_read l refusal i (suc (line_stop l s)) (cut 10 s) a rest e in
        let x = cut_back 10 s d.before rest d.cutting in
        let y = strip_back l.key d.before d.value d.stripped in
        let z = c.back d.value a d.read in
        let b : l.key ++ l.shape.text a ++ (10 ∷ []) ++ rest ≡ l.key ++ l.shape.text a ++ 10 ∷ rest = append_assoc (l.key ++ l.shape.text a) (10 ∷ []) rest in
        cc

    goods : (s : List ℕ) (a : A) (rest : List ℕ) → line l refusal i s ≡ ok a rest → refusal a ≡ 0
    goods s a rest e = (line_read l refusal i (suc (line_stop l s)) (cut 10 s) a rest e).unrefused
