-- The stores, one after the other, on a table of zeros.
use Rattle.std.proofs.Common.{ℕ, ◌≡◌, refl, List, length, set, replicate, ◌∙◌, arith}
use Rattle.facts.specs.Rows.{principals_max, rows_max, le_at, up_at, sf_at, put_sf, with_root, root_rows, one_bit}
use Rattle.facts.specs.Fill.{fill}
use Rattle.facts.specs.Block.{put_filled}
use Rattle.facts.proofs.Facts.root_rows.Goals as goal

stored : (r o : List ℕ) {x y z s : List ℕ} {l u c : ℕ} → l ≡ le_at 0 → u ≡ up_at 0 → y ≡ set r l 1 → z ≡ set y u 1 →
    length o ≡ principals_max → c ≡ principals_max → s ≡ fill one_bit 0 c o → x ≡ put_sf z 0 s → x ≡ with_root r
unfolding with_root put_sf
stored r o {z = z} {c = c} hl hu hy hz size done hs hx = hx ∙ put_filled one_bit z (sf_at 0) c o size done hs ∙ rw (hz, hy, hu, hl) refl

pub returns : goal.returns
unfolding root_rows
returns c =
    let size : length c.args.self.now.rows ≡ rows_max = omega arith in
    let done : c.loop-c.c ≡ principals_max = omega arith in
    stored (replicate rows_max 0) (replicate principals_max 0) c.place_of.ensures c.place_of-2.ensures (rw (c.fill.ensures.after (λ y e. e), size) at c.put_at.ensures) c.put_at-2.ensures refl done c.loop-c.invariant c.put_sf.ensures
