use Rattle.std.proofs.Common.{◌+◌, ◌-◌, arith}
use Rattle.std.proofs.lemmas.Simd.{run_in_chunk_le, run_in_chunk_fails, run_in_chunk_stops}
use Rattle.landing_kernel.specs.Characters.{is_critical}
use Rattle.gap_kernel.proofs.Spellings.{lands_plain}
use Rattle.gap_kernel.proofs.block.land_plain.Goals as goal

pub returns-clause-within : goal.returns-clause-within
returns-clause-within c = omega (arith, run_in_chunk_le is_critical c.args.buf.now c.args.from (c.args.end - c.args.from) c.land-count.result 0 (omega arith) c.land-count.ensures.count)

pub returns-clause-landed : goal.returns-clause-landed
returns-clause-landed c =
    let most = run_in_chunk_le is_critical c.args.buf.now c.args.from (c.args.end - c.args.from) c.land-count.result 0 (omega arith) c.land-count.ensures.count in
    lands_plain c.args.buf.now c.land-count.new.buf c.args.from c.args.to c.land-count.result (omega arith) (omega arith) (omega arith) c.are_bytes.ensures
    (λ k lt. run_in_chunk_fails is_critical c.args.buf.now c.args.from (c.args.end - c.args.from) c.land-count.result 0 (omega arith) c.land-count.ensures.count (c.args.from + k) (omega arith) (omega arith)) c.land-count.ensures.landed

pub returns-clause-stops : goal.returns-clause-stops
returns-clause-stops c = λ lt. run_in_chunk_stops is_critical c.args.buf.now c.args.from (c.args.end - c.args.from) c.land-count.result 0 (omega arith) c.land-count.ensures.count (omega arith)
