-- Each witness is a model of its logic, breaks the conditions that it names and refutes a goal; so that policy does not entail that goal, and no
-- steps at all are a derivation of it (`all_stand`).
use Rattle.std.specs.Prelude.{ℕ, ◌≡◌, true, false, List, [], ◌∷◌, map}
use Rattle.std.proofs.Common.{arith}
use Rattle.scope.specs.Logic.Form.{negate}
use Rattle.scope.specs.Logic.Models.{Model}
use Rattle.scope.specs.Tools.Tests.{both_true}
use Rattle.sound.specs.Over.{All}
use Rattle.sound.specs.Tests.{alltrue, each_true}
use Rattle.sound.proofs.Refuted.{refuting, unentailed, underived, over_ok, over_all_ok, negate_true}
use Rattle.sound.specs.Witnesses.{Witness, witnesses, Stands, breaks_all, tests, computed}
use Rattle.sound.specs.Unasked.{Condition}

breaks_all_lem : (k n : ℕ) (m : Model) (cs : List Condition) → breaks_all k n m cs ≡ true → All (λ (c : Condition). c k n m ≡ false) cs
unfolding breaks_all
breaks_all_lem k n m [] e = tt
breaks_all_lem k n m (c ∷ cs) e =
    let h = both_true (negate (c k n m)) (breaks_all k n m cs) e in
    (negate_true (c k n m) h.0, breaks_all_lem k n m cs h.1)

stands : (w : Witness) → alltrue (tests w) ≡ true → Stands w
unfolding tests
stands w e =
    let k = w.principals in
    let n = w.atoms in
    let h = each_true (tests w) e in
    record {
      meets = (refuting w.logic k n w.model 0 w.policy w.goal h.0).meets;
      broken = breaks_all_lem k n w.model w.breaks h.1.0;
      not_entailed = unentailed w.logic k n w.model 0 w.policy w.goal h.0;
      not_derived =
          λ room xs.
          underived room w.logic k n w.policy w.goal xs
          (over_all_ok k n w.policy h.1.1.0)
          (over_ok k n w.goal h.1.1.1.0)
          k
          (omega arith)
          w.model
          0
          h.0;
    }

stand_each : (ws : List Witness) → alltrue (map (λ (w : Witness). alltrue (tests w)) ws) ≡ true → All Stands ws
unfolding alltrue
stand_each [] e = tt
stand_each (w ∷ ws) e =
    let h = both_true (alltrue (tests w)) (alltrue (map (λ (w : Witness). alltrue (tests w)) ws)) e in
    (stands w h.0, stand_each ws h.1)

pub all_stand : All Stands witnesses
all_stand = stand_each witnesses computed
