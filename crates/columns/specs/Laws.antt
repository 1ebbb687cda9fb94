-- What it is to say where a text stops: a beginning of it can go on exactly if it is no longer than that. One law for each way to put parts
-- together.
use Prim.Native.Nat.{ℕ, suc, ◌≤◌}
use Rattle.std.specs.Prelude.{◌≡◌, Bool, length}
use Rattle.std.proofs.Math.Path.{refl, ap}
use mathlib.Core.List.{List, [], ◌∷◌, ◌++◌}
use Rattle.std.proofs.Math.Bool.{true, false, cond}
use native.Mathlib.Omega.{arith}
use Rattle.std.proofs.Math.Dec.{eqb}
use borrow.Author.Tests.{eqb-true, eq-eqb}
use Rattle.scope.specs.Tools.Tests.{never}
use Rattle.scope.specs.File.Column.{Goes}
use Rattle.scope.specs.File.Stops.{none_stop, byte_stop, word_stop}

pub record Tells (Whole : List ℕ → Type 0) (stop : List ℕ → ℕ) : Type 0 where
  pub there : (p r : List ℕ) → Goes Whole p → length p ≤ stop (p ++ r)
  pub back : (p r : List ℕ) → length p ≤ stop (p ++ r) → Goes Whole p
  pub bounded : (s : List ℕ) → stop s ≤ length s

-- Some text is of the kind, since the empty beginning goes on.
pub live : {P : List ℕ → Type 0} {f : List ℕ → ℕ} → Tells P f → Goes P []
live d = d.back [] [] (omega arith)

-- The same texts, or the same numbers.
pub tells_alike :
    {P Q : List ℕ → Type 0} {f : List ℕ → ℕ} → ((t : List ℕ) → P t → Q t) → ((t : List ℕ) → Q t → P t) → Tells P f
    → Tells Q f
tells_alike {P} {Q} {f} to from d =
    record {
      there = λ p r g. d.there p r (record { continued = g.continued; whole = from _ g.whole });
      back = λ p r h. (let g = d.back p r h in record { continued = g.continued; whole = to _ g.whole });
      bounded = d.bounded;
    }

pub tells_same : {P : List ℕ → Type 0} {f g : List ℕ → ℕ} → ((s : List ℕ) → g s ≡ f s) → Tells P f → Tells P g
tells_same {P} {f} {g} e d =
    record {
      there = λ p r h. rw (e (p ++ r)) (d.there p r h);
      back = λ p r h. d.back p r (rw (e (p ++ r)) at h);
      bounded = λ s. rw (e s) (d.bounded s);
    }

-- Nothing follows.
abbrev pub Nothing : List ℕ → Type 0
Nothing t = t ≡ []

pub tells_nothing : Tells Nothing none_stop
tells_nothing = record { there = there; back = back; bounded = λ s. omega arith }
  where
    there : (p r : List ℕ) → Goes Nothing p → length p ≤ 0
    there [] r g = omega arith
    there (b ∷ p) r g =
        let e = g.whole in
        never cc

    back : (p r : List ℕ) → length p ≤ 0 → Goes Nothing p
    back [] r h = record { continued = []; whole = refl }
    back (b ∷ p) r h = absurd (omega arith)

-- A word, and then a text of some kind.
pub record After (w : List ℕ) (Whole : List ℕ → Type 0) (t : List ℕ) : Type 0 where
  pub rest : List ℕ
  pub is : t ≡ w ++ rest
  pub holds : Whole rest

byte_bounded : (c : ℕ) (f : List ℕ → ℕ) (s : List ℕ) → ((t : List ℕ) → f t ≤ length t) → byte_stop c f s ≤ length s
unfolding byte_stop
byte_bounded c f [] h = omega arith
byte_bounded c f (b ∷ s) h = go (eqb b c) (h s)
  where
    go : (x : Bool) → f s ≤ length s → cond x (suc (f s)) 0 ≤ suc (length s)
    go true k = omega arith
    go false k = omega arith

module _ {P : List ℕ → Type 0} (c : ℕ) (w : List ℕ) (f : List ℕ → ℕ) (d : Tells (After w P) f) where
  byte_there : (p r : List ℕ) → Goes (After (c ∷ w) P) p → length p ≤ byte_stop c f (p ++ r)
  unfolding byte_stop
  byte_there [] r g = omega arith
  byte_there (b ∷ p) r g =
      let a = g.whole in
      let e : b ≡ c = cc a.is in
      let z : p ++ g.continued ≡ w ++ a.rest = cc a.is in
      let k = d.there p r (record { continued = g.continued; whole = record { rest = a.rest; is = z; holds = a.holds } }) in
      rw (eq-eqb b c e) (omega arith)

  byte_back : (p r : List ℕ) → length p ≤ byte_stop c f (p ++ r) → Goes (After (c ∷ w) P) p
  unfolding byte_stop
  byte_back [] r h =
      let g = live d in
      record {
        continued = c ∷ g.continued;
        whole = record { rest = g.whole.rest; is = ap (λ l. c ∷ l) g.whole.is; holds = g.whole.holds };
      }
  byte_back (b ∷ p) r h = go (eqb b c) refl h
    where
      go : (x : Bool) → eqb b c ≡ x → suc (length p) ≤ cond x (suc (f (p ++ r))) 0 → Goes (After (c ∷ w) P) (b ∷ p)
      go true e k =
          let g = d.back p r (omega arith) in
          let q = eqb-true b c e in
          record {
            continued = g.continued;
            whole = record { rest = g.whole.rest; is = cc g.whole.is; holds = g.whole.holds };
          }
      go false e k = absurd (omega arith)

pub tells_word : {P : List ℕ → Type 0} {f : List ℕ → ℕ} (w : List ℕ) → Tells P f → Tells (After w P) (word_stop w f)
unfolding word_stop
tells_word {P} {f} [] d = tells_alike (λ t h. record { rest = t; is = refl; holds = h }) (λ t a. rw a.is a.holds) d
tells_word {P} {f} (c ∷ w) d =
    let m = tells_word w d in
    record {
      there = byte_there c w (word_stop w f) m;
      back = byte_back c w (word_stop w f) m;
      bounded = λ s. byte_bounded c (word_stop w f) s m.bounded;
    }
