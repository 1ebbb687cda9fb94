-- There is a column exactly where the line is refused 2: it is missing, out of shape or without LF.
use Rattle.std.specs.Prelude.{ℕ, zero, suc, ◌≤◌, ◌≡◌, refl, List, [], ◌∷◌, ◌++◌, Bool, true, false, cond, eqb, length, take, drop}
use Rattle.std.proofs.Common.{sym, ap, ◌∙◌, append_assoc, append-nil, arith, take-append-drop, length-append, length-take-le}
use Rattle.std.proofs.Math.Option.{Option, none, some}
use Rattle.std.proofs.Math.Seq.{append_snoc}
use Rattle.scope.specs.Call.Answer.{told, column_for}
use Rattle.scope.specs.File.Line.{Line, Value, val, out, bad, Cut, parts, uncut, cut, cut_after, strip, or_refused, shaped_as, valued, placed, line_of, line_stop, line}
use Rattle.scope.specs.Tools.Tests.{never}
use Rattle.trip.specs.Cuts.{free, free_one, cut_there, cut_back, strip_there, strip_back}
use Rattle.scope.specs.File.Column.{InShape, Goes, Stops, early, cannot, Column}
use Rattle.columns.specs.Unique.{Prefix, shorter, alike, longer, compared, never_later}
use Rattle.columns.specs.Laws.{Tells}

-- What is cut off before a byte is free of it.
cut_free : (b : ℕ) (s u r : List ℕ) → cut b s ≡ parts u r → free b u ≡ true
unfolding cut cut_after free
cut_free b [] u r e = never cc
cut_free b (c ∷ s) u r e = go (eqb c b) refl (cut b s) refl (λ v q. cut_free b s v r q) e
  where
    go :
        (x : Bool) → eqb c b ≡ x → (k : Cut) → cut b s ≡ k → ((v : List ℕ) → cut b s ≡ parts v r → free b v ≡ true)
        → cond x (parts [] s) (cut_after c k) ≡ parts u r → free b u ≡ true
    go true p k q ih e' =
        let z : u ≡ [] = cc in
        rw z refl
    go false p (parts v w) q ih e' =
        let z : u ≡ c ∷ v = cc in
        let y : w ≡ r = cc in
        rw z (free_one b c v p (ih v (rw y at q)))
    go false p uncut q ih e' = never cc

-- A cut is made at the same byte whatever follows.
cut_again : (b : ℕ) (s u r t : List ℕ) → cut b s ≡ parts u r → cut b (u ++ b ∷ t) ≡ parts u t
cut_again b s u r t e = cut_there b u t (cut_free b s u r e)

cut_longer : (b : ℕ) (s u r t : List ℕ) → cut b s ≡ parts u r → cut b (s ++ t) ≡ parts u (r ++ t)
cut_longer b s u r t e =
    let x : s ++ t ≡ u ++ b ∷ (r ++ t) = ap (λ z. z ++ t) (cut_back b s u r e) ∙ append_assoc u (b ∷ r) t in
    rw x (cut_again b s u r (r ++ t) e)

-- A line in shape at the front of a text leaves no column.
module _
    {A : Type 0} (l : Line A) (s u rest v : List ℕ) (a : A) (e : cut 10 s ≡ parts u rest) (k : strip l.key u ≡ some v)
    (h : l.shape.thing v ≡ some a)
  where
    front : InShape l (u ++ (10 ∷ []))
    front = record { value = v; thing = a; ends = cut_again 10 s u rest [] e ∙ ap (λ w. parts w []) (strip_back l.key u v k); shaped = h }

    front_goes : Goes (InShape l) (u ++ (10 ∷ []))
    front_goes = record { continued = []; whole = rw (append-nil (u ++ (10 ∷ []))) front }

    no_column : (n : ℕ) → ¬ Column (InShape l) s n
    no_column n c = go (compared c.before (u ++ (10 ∷ [])) c.after rest x)
      where
        x : c.before ++ c.after ≡ u ++ (10 ∷ []) ++ rest
        x = sym c.text ∙ cut_back 10 s u rest e ∙ sym (append_snoc u 10 rest)

        ended : (t : List ℕ) → c.before ≡ u ++ 10 ∷ t → ⊥
        ended t z =
            let y : cut 10 c.before ≡ parts u t = rw z (cut_again 10 s u rest t e) in
            let w = c.unended in
            never cc

        go : Prefix c.before (u ++ (10 ∷ [])) → ⊥
        go (shorter b r z) = never_later c.before c.after (u ++ (10 ∷ [])) rest b r x z c.stops front_goes
        go (alike z) = ended [] z
        go (longer b r z) = ended (b ∷ r) (z ∙ append_snoc u 10 (b ∷ r))

pub column_refused :
    {A : Type 0} (l : Line A) (refusal : A → ℕ) (i : ℕ) (s : List ℕ) (n : ℕ) → Column (InShape l) s n
    → line l refusal i s ≡ bad (told 2 i (suc (line_stop l s)))
unfolding line line_of placed column_for valued shaped_as
column_refused {A} l refusal i s n c = go (cut 10 s) refl
  where
    shaped :
        (u rest v : List ℕ) → cut 10 s ≡ parts u rest → strip l.key u ≡ some v → (x : Option A) → l.shape.thing v ≡ x
        → placed i (suc (line_stop l s)) (shaped_as refusal x) rest ≡ bad (told 2 i (suc (line_stop l s)))
    shaped u rest v e k none h = refl
    shaped u rest v e k (some a) h = absurd (no_column l s u rest v a e k h n c)

    keyed :
        (u rest : List ℕ) → cut 10 s ≡ parts u rest → (x : Option (List ℕ)) → strip l.key u ≡ x
        → placed i (suc (line_stop l s)) (valued l refusal x) rest ≡ bad (told 2 i (suc (line_stop l s)))
    keyed u rest e none k = refl
    keyed u rest e (some v) k = shaped u rest v e k (l.shape.thing v) refl

    go : (x : Cut) → cut 10 s ≡ x → line_of l refusal i (suc (line_stop l s)) x ≡ bad (told 2 i (suc (line_stop l s)))
    go uncut e = refl
    go (parts u rest) e = keyed u rest e (strip l.key u) refl

-- Where a beginning that goes on has its LF, the line is in shape, so 2 is not its refusal.
pub ended_read :
    {A : Type 0} (l : Line A) (refusal : A → ℕ) (i c : ℕ) (p a u r : List ℕ) → ((x : A) → ¬ (refusal x ≡ 2)) → cut 10 p ≡ parts u r
    → Goes (InShape l) p → ¬ (line l refusal i (p ++ a) ≡ bad (told 2 i c))
unfolding line line_of placed valued shaped_as or_refused
ended_read {A} l refusal i n p a u r other e g q =
    let w = g.whole in
    let x = cut_longer 10 p u r g.continued e in
    let y : u ≡ l.key ++ w.value = cc w.ends in
    let z = cut_longer 10 p u r a e in
    let k : strip l.key u ≡ some w.value = rw y (strip_there l.key w.value) in
    let m : placed i (suc (line_stop l (p ++ a))) (or_refused (refusal w.thing) w.thing) (r ++ a) ≡ bad (told 2 i n) = rw (z, k, w.shaped) at q in
    go (refusal w.thing) refl m
  where
    go :
        (j : ℕ) → refusal g.whole.thing ≡ j
        → placed i (suc (line_stop l (p ++ a))) (or_refused j g.whole.thing) (r ++ a) ≡ bad (told 2 i n) → ⊥
    go zero t m = never cc
    go (suc j) t m =
        let o : suc j ≡ 2 = cc in
        other g.whole.thing (t ∙ o)

module _ {P : List ℕ → Type 0} {f : List ℕ → ℕ} (d : Tells P f) where
  stops_there : (s p a : List ℕ) → s ≡ p ++ a → f s ≡ length p → Stops P p a
  stops_there s p [] e n = early
  stops_there s p (b ∷ r) e n = cannot (λ g.
      let h = d.there (p ++ (b ∷ [])) r g in
      let x : p ++ (b ∷ []) ++ r ≡ s = append_snoc p b r ∙ sym e in
      let k : length (p ++ (b ∷ [])) ≤ f s = rw x at h in
      omega (arith, length-append p (b ∷ []), k))

pub refused_column :
    {A : Type 0} {f : List ℕ → ℕ} (l : Line A) (refusal : A → ℕ) (i c : ℕ) (s : List ℕ) → ((x : A) → ¬ (refusal x ≡ 2)) → Tells (InShape l) f
    → line l refusal i s ≡ bad (told 2 i c) → Column (InShape l) s (suc (f s))
refused_column {A} {f} l refusal i m s other d q =
    record {
      before = p;
      after = drop (f s) s;
      text = e;
      column = omega (arith, n);
      unended = go (cut 10 p) refl;
      goes = g;
      stops = stops_there d s p (drop (f s) s) e n;
    }
  where
    p : List ℕ
    p = take (f s) s

    e : s ≡ p ++ drop (f s) s
    e = sym (take-append-drop (f s) s)

    n : f s ≡ length p
    n = sym (length-take-le (f s) s (d.bounded s))

    g : Goes (InShape l) p
    g = d.back p (drop (f s) s) (rw (← e) (omega (arith, n)))

    go : (x : Cut) → cut 10 p ≡ x → x ≡ uncut
    go uncut c = refl
    go (parts u r) c = absurd (ended_read l refusal i m p (drop (f s) s) u r other c g (rw e at q))

-- The column that goes with 2 is one more than the bytes that can stand.
pub refused_stop : {A : Type 0} (l : Line A) (refusal : A → ℕ) (i j c : ℕ) (s : List ℕ) → line l refusal i s ≡ bad (told 2 j c) → c ≡ suc (line_stop l s)
unfolding line line_of placed column_for
refused_stop {A} l refusal i j c s q = go (cut 10 s) q
  where
    value : (v : Value A) (rest : List ℕ) → placed i (suc (line_stop l s)) v rest ≡ bad (told 2 j c) → c ≡ suc (line_stop l s)
    value (val a) rest e = never cc
    value (out k) rest e =
        let z : k ≡ 2 = cc in
        let w : column_for k (suc (line_stop l s)) ≡ c = cc in
        sym w ∙ ap (λ n. column_for n (suc (line_stop l s))) z

    go : (x : Cut) → line_of l refusal i (suc (line_stop l s)) x ≡ bad (told 2 j c) → c ≡ suc (line_stop l s)
    go uncut e = cc
    go (parts u rest) e = value (valued l refusal (strip l.key u)) rest e
