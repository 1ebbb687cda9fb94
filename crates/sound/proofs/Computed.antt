-- The tests of a finite model are right: `frame_ok` (what passes the test of Definition 1's frame conditions meets them), `lawful_ok` (and so with
-- what a logic asks beside them) and `eval_exact` (the value computed is the formula's truth, both ways).
use Rattle.std.specs.Prelude.{ℕ, ◌<◌, ◌≡◌, refl, Bool, true, false, ◌↔◌}
use mathlib.Core.List.{List, [], ◌∷◌}
use Rattle.std.proofs.Math.Logic.{⊎_map}
use Rattle.scope.specs.Logic.Form as F
use Rattle.scope.specs.Logic.Form.{Form, both, either}
use Rattle.scope.specs.Logic.Facts.{Logic, plain, unit}
use Rattle.scope.specs.Logic.Models as M
use Rattle.scope.specs.Logic.Models.{Model, Future, Frame, Within, Sat, SatAll}
use Rattle.sound.specs.Tests.{each_true}
use Rattle.scope.specs.Tools.Tests.{never, both_true, both_met}
use Rattle.sound.specs.Computed.{worlds, pairs, triples, conditions, frame, lawful, eval, eval_all}
use Rattle.sound.specs.Tests.{either_true, true_either, implies_so, so_implies, every_at, at_every}

-- Tests over the worlds, pairs of worlds and triples of worlds of a model.
module _ (m : Model) where
  world_at : (t : ℕ → Bool) → worlds m t ≡ true → (x : ℕ) → x < m.worlds → t x ≡ true
  unfolding worlds
  world_at t e x i = every_at m.worlds t e x i

  pair_at : (t : ℕ → ℕ → Bool) → pairs m t ≡ true → (x y : ℕ) → x < m.worlds → y < m.worlds → t x y ≡ true
  unfolding pairs
  pair_at t e x y i j = world_at _ (world_at _ e x i) y j

  triple_at : (t : ℕ → ℕ → ℕ → Bool) → triples m t ≡ true → (x y z : ℕ) → x < m.worlds → y < m.worlds → z < m.worlds → t x y z ≡ true
  unfolding triples
  triple_at t e x y z i j l = world_at _ (world_at _ (world_at _ e x i) y j) z l

-- For k principals and n atoms.
module _ (k n : ℕ) (m : Model) where
  -- What each step keeps, a way of steps keeps.
  along : (a b : ℕ) →
      ((x y : ℕ) → x < m.worlds → y < m.worlds → m.speaks a b x ≡ true → m.le x y ≡ true → m.speaks a b y ≡ true) →
      ((c x y : ℕ) → c < k → x < m.worlds → y < m.worlds → m.speaks a b x ≡ true → m.acc c x y ≡ true → m.speaks a b y ≡ true) →
      {x y : ℕ} → Future m k x y → x < m.worlds → m.speaks a b x ≡ true → m.speaks a b y ≡ true
  along a b l s M.same i e = e
  along a b l s (M.by_le {x} {y} j d t) i e = along a b l s t j (l x y i j e d)
  along a b l s (M.by_acc {x} {y} c q j d t) i e = along a b l s t j (s c x y q i j e d)

  pub frame_ok : frame k n m ≡ true → Frame k n m
  unfolding frame conditions
  frame_ok e =
      let (t1, (t2, (t3, (t4, (t5, (t6, (t7, (t8, (t9, (t10, end)))))))))) = each_true (conditions k n m) e in
      record {
        refl_le = world_at m _ t1;
        trans_le = λ x y z i j l d e. implies_so _ _ (implies_so _ _ (triple_at m _ t2 x y z i j l) d) e;
        mon_S =
            λ a x y z c i j l d e.
            implies_so _ _ (implies_so _ _ (triple_at m _ (every_at k _ t3 a c) x y z i j l) d) e;
        I =
            λ a b x y z c f i j l d e.
            implies_so _ _ (implies_so _ _ (triple_at m _ (every_at k _ (every_at k _ t4 a c) b f) x y z i j l) d) e;
        basic_sf =
            λ a b x y c f i j d e.
            implies_so _ _ (implies_so _ _ (pair_at m _ (every_at k _ (every_at k _ t5 a c) b f) x y i j) d) e;
        refl_sf = λ a x c i. world_at m _ (every_at k _ t6 a c) x i;
        trans_sf =
            λ a b c x f g q i d e.
            implies_so _ _
            (implies_so _ _ (world_at m _ (every_at k _ (every_at k _ (every_at k _ t7 a f) b g) c q) x i) d)
            e;
        mon =
            λ p x y c i j d e.
            implies_so _ _ (implies_so _ _ (pair_at m _ (every_at n _ t8 p c) x y i j) d) e;
        mon_sf =
            λ a b x y c f i j t e.
            along a b
            (λ x y i j d e. implies_so _ _ (implies_so _ _ (pair_at m _ (every_at k _ (every_at k _ t9 a c) b f) x y i j) d) e)
            (λ g x y q i j d e.
            implies_so _ _
            (implies_so _ _ (pair_at m _ (every_at k _ (every_at k _ (every_at k _ t10 a c) b f) g q) x y i j) d)
            e)
            t i e;
      }

pub lawful_ok : (l : Logic) (k : ℕ) (m : Model) → lawful l k m ≡ true → l ≡ unit → Within k m
unfolding lawful
lawful_ok plain k m e d = never cc
lawful_ok unit k m e d = λ a x y c i j f. implies_so _ _ (pair_at m _ (every_at k _ e a c) x y i j) f

pub eval_exact : (m : Model) (w : ℕ) (f : Form) → (eval m w f ≡ true) ↔ Sat m w f
unfolding eval Sat
eval_exact m w (F.atom p) = (λ e. e, λ h. h)
eval_exact m w F.top = (λ e. tt, λ h. refl)
eval_exact m w F.bot = (λ e. never cc, λ h. absurd h)
eval_exact m w (F.and f g) = (
  λ e. ((eval_exact m w f).0 (both_true _ _ e).0, (eval_exact m w g).0 (both_true _ _ e).1),
  λ h. both_met _ _ ((eval_exact m w f).1 h.0) ((eval_exact m w g).1 h.1),
)
eval_exact m w (F.or f g) = (
  λ e. ⊎_map (eval_exact m w f).0 (eval_exact m w g).0 (true_either _ _ e),
  λ h. either_true _ _ (⊎_map (eval_exact m w f).1 (eval_exact m w g).1 h),
)
eval_exact m w (F.imp f g) = (
  λ e v i l h. (eval_exact m v g).0 (implies_so _ _ (implies_so _ _ (every_at _ _ e v i) l) ((eval_exact m v f).1 h)),
  λ h.
      at_every _ _ λ v i. so_implies _ _ λ l. so_implies _ _ λ d. (eval_exact m v g).1 (h v i l ((eval_exact m v f).0 d)),
)
eval_exact m w (F.says a f) = (
  λ e v i l. (eval_exact m v f).0 (implies_so _ _ (every_at _ _ e v i) l),
  λ h. at_every _ _ λ v i. so_implies _ _ λ l. (eval_exact m v f).1 (h v i l),
)
eval_exact m w (F.sf a b) = (λ e. e, λ h. h)

pub eval_false : (m : Model) (w : ℕ) (f : Form) → eval m w f ≡ false → Sat m w f → ⊥
eval_false m w f e h = let d : eval m w f ≡ true = (eval_exact m w f).1 h in never cc

pub eval_all_true : (m : Model) (w : ℕ) (fs : List Form) → eval_all m w fs ≡ true → SatAll m w fs
unfolding eval_all SatAll
eval_all_true m w [] e = tt
eval_all_true m w (f ∷ fs) e = ((eval_exact m w f).0 (both_true _ _ e).0, eval_all_true m w fs (both_true _ _ e).1)
