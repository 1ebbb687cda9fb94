-- A countermodel, computed: where `refutes` holds of a finite model, that policy does not entail that goal (`unentailed`), and no steps are
-- a derivation of it, whatever the limits (`underived`). A model over more principals than the request has serves too.
use Rattle.std.specs.Prelude.{ℕ, ◌≤◌, ◌≡◌, refl, Bool, true, false, List, [], ◌∷◌, ltb}
use Rattle.std.proofs.Common.{arith, ltb-true}
use Rattle.scope.specs.Tools.Tests.{never, both_true}
use Rattle.scope.specs.Logic.Facts.{Logic}
use Rattle.scope.specs.Logic.Form as F
use Rattle.scope.specs.Logic.Form.{Form, both, negate}
use Rattle.scope.specs.Logic.Obligation.{Obligation, Step, start}
use Rattle.scope.specs.Logic.Derivation.{Derivation}
use Rattle.scope.specs.Logic.Models as M
use Rattle.scope.specs.Logic.Models.{Model, Future, Frame, ModelOf, Sat, SatAll, Entailed}
use Rattle.sound.specs.Over.{Over, All}
use Rattle.sound.proofs.Sound.{refuted}
use Rattle.sound.specs.Tests.{each_true}
use Rattle.sound.specs.Computed.{frame, lawful, eval, eval_all}
use Rattle.sound.proofs.Computed.{frame_ok, lawful_ok, eval_false, eval_all_true}
use Rattle.sound.specs.Refuted.{refutes, Refuting, over, over_all}

pub negate_true : (b : Bool) → negate b ≡ true → b ≡ false
unfolding negate
negate_true true e = never cc
negate_true false e = refl

-- A model over more principals is one over fewer.
module _ (m : Model) (l : Logic) (k more n : ℕ) (up : k ≤ more) where
  future_more : {x y : ℕ} → Future m k x y → Future m more x y
  future_more M.same = M.same
  future_more (M.by_le i e t) = M.by_le i e (future_more t)
  future_more (M.by_acc a c i e t) = M.by_acc a (omega arith) i e (future_more t)

  frame_fewer : Frame more n m → Frame k n m
  frame_fewer fr =
      record {
        refl_le = fr.refl_le;
        trans_le = fr.trans_le;
        mon_S = λ a x y z c. fr.mon_S a x y z (omega arith);
        I = λ a b x y z c d. fr.I a b x y z (omega arith) (omega arith);
        basic_sf = λ a b x y c d. fr.basic_sf a b x y (omega arith) (omega arith);
        refl_sf = λ a x c. fr.refl_sf a x (omega arith);
        trans_sf = λ a b c x d e f. fr.trans_sf a b c x (omega arith) (omega arith) (omega arith);
        mon = fr.mon;
        mon_sf = λ a b x y c d i j t. fr.mon_sf a b x y (omega arith) (omega arith) i j (future_more t);
      }

  model_fewer : ModelOf l more n m → ModelOf l k n m
  model_fewer of = record { frame = frame_fewer of.frame; within = λ e a x y c. of.within e a x y (omega arith) }

pub refuting : (l : Logic) (k n : ℕ) (m : Model) (x : ℕ) (policy : List Form) (goal : Form) → refutes l k n m x policy goal ≡ true →
    Refuting l k n m x policy goal
unfolding refutes
refuting l k n m x policy goal e =
    let h = each_true (frame k n m ∷ lawful l k m ∷ ltb x m.worlds ∷ eval_all m x policy ∷ negate (eval m x goal) ∷ []) e in
    record {
      meets = record { frame = frame_ok k n m h.0; within = lawful_ok l k m h.1.0 };
      inside = ltb-true x m.worlds h.1.1.0;
      holds = eval_all_true m x policy h.1.1.1.0;
      fails = eval_false m x goal (negate_true (eval m x goal) h.1.1.1.1.0);
    }

pub unentailed : (l : Logic) (k n : ℕ) (m : Model) (x : ℕ) (policy : List Form) (goal : Form) → refutes l k n m x policy goal ≡ true →
    Entailed l k n policy goal → ⊥
unfolding Entailed
unentailed l k n m x policy goal e t =
    let r = refuting l k n m x policy goal e in
    r.fails (t m r.meets x r.inside r.holds)

module _ (room : ℕ → List Obligation → Bool) (l : Logic) (k n : ℕ) (policy : List Form) (goal : Form) (xs : List Step) where
  pub underived : All (Over k n) policy → Over k n goal → (more : ℕ) → k ≤ more →
      (m : Model) (x : ℕ) → refutes l more n m x policy goal ≡ true →
      Derivation room (start l k policy goal) xs → ⊥
  underived o g more up m x e d =
      let r = refuting l more n m x policy goal e in
      refuted room l k n policy goal xs o g m (model_fewer m l k more n up r.meets) x r.inside r.holds r.fails d

pub over_ok : (k n : ℕ) (f : Form) → over k n f ≡ true → Over k n f
unfolding over Over
over_ok k n (F.atom p) e = ltb-true p n e
over_ok k n F.top e = tt
over_ok k n F.bot e = tt
over_ok k n (F.and f g) e = let h = both_true _ _ e in (over_ok k n f h.0, over_ok k n g h.1)
over_ok k n (F.or f g) e = let h = both_true _ _ e in (over_ok k n f h.0, over_ok k n g h.1)
over_ok k n (F.imp f g) e = let h = both_true _ _ e in (over_ok k n f h.0, over_ok k n g h.1)
over_ok k n (F.says a f) e = let h = both_true _ _ e in (ltb-true a k h.0, over_ok k n f h.1)
over_ok k n (F.sf a b) e = let h = both_true _ _ e in (ltb-true a k h.0, ltb-true b k h.1)

pub over_all_ok : (k n : ℕ) (fs : List Form) → over_all k n fs ≡ true → All (Over k n) fs
unfolding over_all
over_all_ok k n [] e = tt
over_all_ok k n (f ∷ fs) e = let h = both_true _ _ e in (over_ok k n f h.0, over_all_ok k n fs h.1)
