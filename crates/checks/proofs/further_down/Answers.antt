-- `checks::further_down` meets its contract: a place that is near has room for the lines above it.
use Prim.Native.Nat.{◌≤◌}
use Rattle.std.proofs.Common.{arith}
use Rattle.checks.specs.Met.{place_of}
use Rattle.checks.proofs.further_down.Goals as goal

pub map_err-requires : goal.map_err-requires
unfolding place_of
map_err-requires c =
    λ e is κs xs seen fits in_e.
    let near : e.place ≤ 10000 = rw is at c.requires.0 in
    let few : c.args.extra ≤ 1 = c.requires.1 in
    omega arith
