-- Cutting a text at a byte, taking a key off, and parting items: each undoes what the writing puts together, and nothing else.
use Rattle.std.specs.Prelude.{ℕ, ◌+◌, ◌<◌, ◌≡◌, Bool, false, cond, not, eqb, ltb}
use Rattle.std.proofs.Math.Path.{refl}
use Rattle.std.proofs.Common.{ap, ◌∙◌, arith, eqb-true, eq-eqb, ne_eqb}
use mathlib.Core.List.{List, [], ◌∷◌, ◌++◌, map}
use Rattle.std.proofs.Math.Bool.{true}
use Rattle.std.proofs.Math.Option.{some}
use Rattle.std.proofs.lemmas.Bool.{not-true}
use Rattle.scope.specs.Logic.Form.{both}
use Rattle.scope.specs.File.Number.{digit, numeral}
use Rattle.scope.specs.File.Line.{Cut, parts, uncut, cut, cut_after, strip}
use Rattle.scope.specs.File.Kinds.{onto_first, items, spaced}
use Rattle.scope.specs.Tools.Tests.{never, both_true, both_met, taken}

-- No byte b stands in a text.
unfoldable pub free : ℕ → List ℕ → Bool
unfolding both
free b [] = true
free b (c ∷ s) = both (not (eqb c b)) (free b s)

-- The same of each of several.
unfoldable pub all_free : ℕ → List (List ℕ) → Bool
unfolding both free
all_free b [] = true
all_free b (s ∷ ss) = both (free b s) (all_free b ss)

pub record FreeCons (b c : ℕ) (s : List ℕ) : Type 0 where
  pub head : eqb c b ≡ false
  pub tail : free b s ≡ true

pub free_cons : (b c : ℕ) (s : List ℕ) → free b (c ∷ s) ≡ true → FreeCons b c s
unfolding free
free_cons b c s e =
    let p = both_true (not (eqb c b)) (free b s) e in
    record { head = not-true (eqb c b) p.0; tail = p.1 }

pub free_one : (b c : ℕ) (s : List ℕ) → eqb c b ≡ false → free b s ≡ true → free b (c ∷ s) ≡ true
unfolding free
free_one b c s p q = both_met (not (eqb c b)) (free b s) (ap not p) q

pub free_append : (b : ℕ) (s t : List ℕ) → free b s ≡ true → free b t ≡ true → free b (s ++ t) ≡ true
free_append b [] t p q = q
free_append b (c ∷ s) t p q =
    let w = free_cons b c s p in
    free_one b c (s ++ t) w.head (free_append b s t w.tail q)

-- A text up to the byte b, and on from there.
pub cut_there : (b : ℕ) (s t : List ℕ) → free b s ≡ true → cut b (s ++ b ∷ t) ≡ parts s t
unfolding cut
cut_there b [] t f = rw (eq-eqb b b refl)
cut_there b (c ∷ s) t f =
    let w = free_cons b c s f in
    rw (w.head, cut_there b s t w.tail)

cut_after_lem : (c : ℕ) (x : Cut) (s t : List ℕ) → cut_after c x ≡ parts s t → (r : List ℕ) × (x ≡ parts r t) × (s ≡ c ∷ r)
unfolding cut_after
cut_after_lem c (parts u v) s t e = (u, cc, cc)
cut_after_lem c uncut s t e = never cc

pub cut_back : (b : ℕ) (u s t : List ℕ) → cut b u ≡ parts s t → u ≡ s ++ b ∷ t
unfolding cut
cut_back b [] s t e = never cc
cut_back b (c ∷ u) s t e = go (eqb c b) refl (λ r. cut_back b u r t) e
  where
    go :
        (x : Bool) → eqb c b ≡ x → ((r : List ℕ) → cut b u ≡ parts r t → u ≡ r ++ b ∷ t)
        → cond x (parts [] u) (cut_after c (cut b u)) ≡ parts s t → c ∷ u ≡ s ++ b ∷ t
    go true p ih e' =
        let q = eqb-true c b p in
        let n : s ≡ [] = cc in
        rw n (cc)
    go false p ih e' =
        let w = cut_after_lem c (cut b u) s t e' in
        rw w.2 (ap (λ l. c ∷ l) (ih w.0 w.1))

pub strip_there : (key v : List ℕ) → strip key (key ++ v) ≡ some v
unfolding strip
strip_there [] v = refl
strip_there (k ∷ ks) v = rw (eq-eqb k k refl, strip_there ks v)

pub strip_back : (key s v : List ℕ) → strip key s ≡ some v → s ≡ key ++ v
unfolding strip
strip_back [] s v e = cc
strip_back (k ∷ ks) [] v e = never cc
strip_back (k ∷ ks) (c ∷ s) v e =
    let p = taken (eqb c k) (strip ks s) v e in
    let q = eqb-true c k p.0 in
    cc (strip_back ks s v p.1)

-- Items parted by one space.
pub record AllFree (b : ℕ) (s : List ℕ) (ss : List (List ℕ)) : Type 0 where
  pub first : free b s ≡ true
  pub rest : all_free b ss ≡ true

pub all_free_lem : (b : ℕ) (s : List ℕ) (ss : List (List ℕ)) → all_free b (s ∷ ss) ≡ true → AllFree b s ss
unfolding all_free
all_free_lem b s ss e =
    let p = both_true (free b s) (all_free b ss) e in
    record { first = p.0; rest = p.1 }

items_word : (w : List ℕ) → free 32 w ≡ true → items w ≡ w ∷ []
unfolding items
items_word [] f = refl
items_word (c ∷ w) f =
    let p = free_cons 32 c w f in
    rw (p.head, items_word w p.tail)

items_more : (w s : List ℕ) → free 32 w ≡ true → items (w ++ 32 ∷ s) ≡ w ∷ items s
unfolding items
items_more [] s f = refl
items_more (c ∷ w) s f =
    let p = free_cons 32 c w f in
    rw (p.head, items_more w s p.tail)

pub items_there : (vs : List (List ℕ)) (w : List ℕ) → free 32 w ≡ true → all_free 32 vs ≡ true → items (spaced w vs) ≡ w ∷ vs
unfolding spaced
items_there [] w f g = items_word w f
items_there (v ∷ vs) w f g =
    let p = all_free_lem 32 v vs g in
    items_more w (spaced v vs) f ∙ ap (λ l. w ∷ l) (items_there vs v p.first p.rest)

never_empty : (c : ℕ) (t : Bool) (l : List (List ℕ)) → cond t ([] ∷ l) (onto_first c l) ≡ [] → ⊥
unfolding onto_first
never_empty c true l e = never cc
never_empty c false [] e = never cc
never_empty c false (v ∷ l) e = never cc

items_some : (s : List ℕ) → items s ≡ [] → ⊥
unfolding items
items_some [] e = never cc
items_some (c ∷ s) e = never_empty c (eqb c 32) (items s) e

back_step :
    (c : ℕ) (s w : List ℕ) (ws l : List (List ℕ)) (t : Bool) → eqb c 32 ≡ t → (l ≡ [] → ⊥)
    → ((v : List ℕ) (vs : List (List ℕ)) → l ≡ v ∷ vs → s ≡ spaced v vs) → cond t ([] ∷ l) (onto_first c l) ≡ w ∷ ws → c ∷ s ≡ spaced w ws
unfolding onto_first spaced
back_step c s w ws [] t q none-such ih e = absurd (none-such refl)
back_step c s w ws (v ∷ vs) true q none-such ih e =
    let a = eqb-true c 32 q in
    let b = ih v vs refl in
    let x : w ≡ [] = cc in
    let y : ws ≡ v ∷ vs = cc in
    rw (x, y) (cc)
back_step c s w ws (v ∷ vs) false q none-such ih e =
    let x : w ≡ c ∷ v = cc in
    let y : ws ≡ vs = cc in
    rw (x, y) (onto vs (ih v vs refl))
  where
    onto : (us : List (List ℕ)) → s ≡ spaced v us → c ∷ s ≡ spaced (c ∷ v) us
    onto [] b = ap (λ l. c ∷ l) b
    onto (u ∷ us) b = ap (λ l. c ∷ l) b

pub items_back : (s w : List ℕ) (ws : List (List ℕ)) → items s ≡ w ∷ ws → s ≡ spaced w ws
unfolding items spaced
items_back [] w ws e =
    let x : w ≡ [] = cc in
    let y : ws ≡ [] = cc in
    rw (x, y)
items_back (c ∷ s) w ws e = back_step c s w ws (items s) (eqb c 32) refl (items_some s) (λ v vs q. items_back s v vs q) e

pub spaced_free : (b : ℕ) (vs : List (List ℕ)) (w : List ℕ) → eqb 32 b ≡ false → free b w ≡ true → all_free b vs ≡ true → free b (spaced w vs) ≡ true
unfolding spaced
spaced_free b [] w s f g = f
spaced_free b (v ∷ vs) w s f g =
    let p = all_free_lem b v vs g in
    free_append b w (32 ∷ spaced v vs) f (free_one b 32 (spaced v vs) s (spaced_free b vs v s p.first p.rest))

-- The writing of a number has neither space nor LF.
digit_free : (b n : ℕ) (s : List ℕ) → b < 48 → free b s ≡ true → free b (digit n ∷ s) ≡ true
unfolding digit
digit_free b n s h f = free_one b (48 + n) s (ne_eqb (48 + n) b (λ e. omega arith)) f

free_pick : (b : ℕ) (t : Bool) (x y : List ℕ) → free b x ≡ true → free b y ≡ true → free b (cond t x y) ≡ true
free_pick b true x y p q = p
free_pick b false x y p q = q

pub numeral_free : (b n : ℕ) → b < 48 → free b (numeral n) ≡ true
unfolding numeral
numeral_free b n h =
    let f : free b [] ≡ true = unfold free in refl in
    let d : (x : ℕ) (s : List ℕ) → free b s ≡ true → free b (digit x ∷ s) ≡ true = λ x s g. digit_free b x s h g in
    free_pick b (ltb n 10) _ _ (d _ _ f)
    (free_pick b (ltb n 100) _ _ (d _ _ (d _ _ f))
    (free_pick b (ltb n 1000) _ _ (d _ _ (d _ _ (d _ _ f)))
    (free_pick b (ltb n 10000) _ _ (d _ _ (d _ _ (d _ _ (d _ _ f)))) (d _ _ (d _ _ (d _ _ (d _ _ (d _ _ f))))))))

pub numerals_free : (b : ℕ) (ns : List ℕ) → b < 48 → all_free b (map numeral ns) ≡ true
unfolding all_free
numerals_free b [] h = refl
numerals_free b (n ∷ ns) h = both_met (free b (numeral n)) (all_free b (map numeral ns)) (numeral_free b n h) (numerals_free b ns h)
