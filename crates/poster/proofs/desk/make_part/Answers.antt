-- A part read and written.
use Rattle.std.proofs.Common.{ap, arith, length, ◌∙◌}
use Rattle.poster.proofs.DeskLemmas.{part_stands, is_inside, failed_inside, short_inside, piece_of, part_made}
use Rattle.poster.proofs.desk.make_part.Goals as goal

pub overflow_sub-place : goal.overflow_sub-place
overflow_sub-place g c =
    let stands = part_stands c.args.settings.now c.args.plan.now c.args.part c.as_slice.result.now c.index-as_slice-part.result c.requires.settings c.requires.plan c.requires.first c.requires.last c.as_slice.ensures c.index-as_slice-part.is in
    omega (arith, stands.place_is)

pub read_part_into-requires-clause-inside : goal.read_part_into-requires-clause-inside
read_part_into-requires-clause-inside g c =
    let stands = part_stands c.args.settings.now c.args.plan.now c.args.part c.as_slice.result.now c.index-as_slice-part.result c.requires.settings c.requires.plan c.requires.first c.requires.last c.as_slice.ensures c.index-as_slice-part.is in
    is_inside _ c.args.plan.now.size _ c.requires.current (omega (arith, stands.place_is, stands.inside))

pub read_part_into-requires-clause-most : goal.read_part_into-requires-clause-most
read_part_into-requires-clause-most g c =
    let stands = part_stands c.args.settings.now c.args.plan.now c.args.part c.as_slice.result.now c.index-as_slice-part.result c.requires.settings c.requires.plan c.requires.first c.requires.last c.as_slice.ensures c.index-as_slice-part.is in
    omega (arith, stands.place_is, stands.inside, c.requires.plan.few_bytes)

pub returns-in-Err-Fault-clause-ends : goal.returns-in-Err-Fault-clause-ends
returns-in-Err-Fault-clause-ends g c =
    let stands = part_stands c.args.settings.now c.args.plan.now c.args.part c.as_slice.result.now c.index-as_slice-part.result c.requires.settings c.requires.plan c.requires.first c.requires.last c.as_slice.ensures c.index-as_slice-part.is in
    failed_inside _ _ c.args.plan.now.size _ (omega (arith, stands.place_is, stands.inside)) (rw c.in-Err-Fault.field-0-is at c.in-Err-Fault.ensures.ends)

pub returns-in-Err-Short-clause-ends : goal.returns-in-Err-Short-clause-ends
returns-in-Err-Short-clause-ends g c =
    let stands = part_stands c.args.settings.now c.args.plan.now c.args.part c.as_slice.result.now c.index-as_slice-part.result c.requires.settings c.requires.plan c.requires.first c.requires.last c.as_slice.ensures c.index-as_slice-part.is in
    short_inside _ _ c.args.plan.now.size c.in-Err-Short.at _ (omega (arith, stands.place_is, stands.inside)) (rw c.in-Err-Short.field-0-is at c.in-Err-Short.ensures.ends)

pub write_article-requires-clause-bytes : goal.write_article-requires-clause-bytes
write_article-requires-clause-bytes g c =
    let stands = part_stands c.args.settings.now c.args.plan.now c.args.part c.as_slice.result.now c.index-as_slice-part.result c.requires.settings c.requires.plan c.requires.first c.requires.last c.as_slice.ensures c.index-as_slice-part.is in
    ap length c.as_slice-2.ensures ∙ c.in-Ok.ensures.length ∙ stands.len_is

pub returns-in-Ok-write_article-clause-made : goal.returns-in-Ok-write_article-clause-made
returns-in-Ok-write_article-clause-made g c =
    let stands = part_stands c.args.settings.now c.args.plan.now c.args.part c.as_slice.result.now c.index-as_slice-part.result c.requires.settings c.requires.plan c.requires.first c.requires.last c.as_slice.ensures c.index-as_slice-part.is in
    part_made c.args.settings.now c.args.plan.now.size _ c.args.part _ c.as_slice-2.result.now _ (omega (arith, stands.place_is)) (piece_of _ _ _ _ c.as_slice-2.ensures c.in-Ok.ensures.piece) (ap length c.as_slice-2.ensures ∙ c.in-Ok.ensures.length ∙ stands.len_is) c.in-Ok-write_article.ensures.ok
