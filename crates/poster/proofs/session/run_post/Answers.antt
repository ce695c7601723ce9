-- A run: the first part made, a link opened, and all parts posted.
use Rattle.std.proofs.Common.{◌∙◌, ℕ, List, Option, Ok, Err, [], length, ap, subst}
use Rattle.std.specs.Option.{option_copied}
use Rattle.input_files.specs.Reading.{reading}
use Rattle.poster.specs.Posting.{made_on}
use Rattle.poster.specs.Session.{HasSent, WasOver, WasRefused, WasStopped}
use Rattle.poster.specs.declared.session.RunEnd.{RunEnd}
use Rattle.poster.proofs.DeskLemmas.{some_part}
use Rattle.poster.proofs.RunLemmas.{reads_from, ends_unmade, start_is, start_of, opens, over_at_opening, sent_fits, refused_fits, sent_stops, refused_stops}
use Rattle.poster.proofs.SaidLemmas.{count_of_outcomes}
use Rattle.poster.proofs.session.run_post.Goals as goal

pub post_parts-requires-clause-all : goal.post_parts-requires-clause-all
post_parts-requires-clause-all g c = ap length c.in-Ok-unsent.ensures ∙ count_of_outcomes c.len.result [] [] ∙ c.len.ensures

pub returns-in-Err-Over-clause-ends : goal.returns-in-Err-Over-clause-ends
returns-in-Err-Over-clause-ends g c =
    let over = rw c.in-Err-Over.field-0-is at c.in-Err-Over.ensures.over in
    (c.in-Ok.ensures.ends.0, over_at_opening c.args.settings.now c.args.plan.now.size (length c.args.plan.now.parts) (g.I.Input.content c.args.input.now) (start_of (g.L.Links.trace c.args.links.now) c.as_slice.result.now (option_copied c.as_ref.result)) (start_of (g.L.Links.trace c.args.links.now) c.args.settings.now.server c.args.settings.now.login) (g.L.Links.trace c.open.new.links) (made_on c.make_part.new.desk) c.in-Err-Over.why (start_is (g.L.Links.trace c.args.links.now) c.as_slice.result.now c.args.settings.now.server (option_copied c.as_ref.result) c.args.settings.now.login c.as_slice.ensures c.as_ref.ensures.value) c.in-Ok.ensures.made (some_part c.args.settings.now c.args.plan.now c.requires.plan) over)

pub returns-in-Ok-Sent-clause-ends : goal.returns-in-Ok-Sent-clause-ends
returns-in-Ok-Sent-clause-ends g c =
    let under = opens c.args.settings.now c.args.plan.now.size (length c.args.plan.now.parts) (g.I.Input.content c.make_part.new.input) (start_of (g.L.Links.trace c.args.links.now) c.as_slice.result.now (option_copied c.as_ref.result)) (start_of (g.L.Links.trace c.args.links.now) c.args.settings.now.server c.args.settings.now.login) (g.L.Links.trace c.open.new.links) (g.L.Links.live c.open.new.links) c.in-Ok-open.dialog c.len.result c.in-Ok-unsent.sent (start_is (g.L.Links.trace c.args.links.now) c.as_slice.result.now c.args.settings.now.server (option_copied c.as_ref.result) c.args.settings.now.login c.as_slice.ensures c.as_ref.ensures.value) c.len.ensures c.in-Ok-unsent.ensures c.in-Ok-open.ensures.opened in
    let ended = rw c.in-Ok-Sent.field-0-is at (c.in-Ok-Sent.ensures.ends (start_of (g.L.Links.trace c.args.links.now) c.args.settings.now.server c.args.settings.now.login) under) in
    (reads_from {T = RunEnd} c.args.plan.now.size (reading g.I.Input c.make_part.new.input c.post_parts.new.input) (g.I.Input.faults c.args.input.now) (g.I.Input.shorts c.args.input.now) (g.I.Input.blame c.args.input.now) (Ok c.in-Ok-Sent.field-0) c.in-Ok.ensures.ends.0.faults c.in-Ok.ensures.ends.0.shorts c.in-Ok.ensures.ends.1 c.in-Ok-Sent.ensures.reads, subst (λ (k : Option (List ℕ)). HasSent c.args.settings.now c.args.plan.now.size (length c.args.plan.now.parts) k (start_of (g.L.Links.trace c.args.links.now) c.args.settings.now.server c.args.settings.now.login) (g.L.Links.trace c.post_parts.new.links) c.post_parts.new.sent) c.in-Ok.ensures.content ended)

pub returns-in-Ok-Refused-clause-ends : goal.returns-in-Ok-Refused-clause-ends
returns-in-Ok-Refused-clause-ends g c =
    let under = opens c.args.settings.now c.args.plan.now.size (length c.args.plan.now.parts) (g.I.Input.content c.make_part.new.input) (start_of (g.L.Links.trace c.args.links.now) c.as_slice.result.now (option_copied c.as_ref.result)) (start_of (g.L.Links.trace c.args.links.now) c.args.settings.now.server c.args.settings.now.login) (g.L.Links.trace c.open.new.links) (g.L.Links.live c.open.new.links) c.in-Ok-open.dialog c.len.result c.in-Ok-unsent.sent (start_is (g.L.Links.trace c.args.links.now) c.as_slice.result.now c.args.settings.now.server (option_copied c.as_ref.result) c.args.settings.now.login c.as_slice.ensures c.as_ref.ensures.value) c.len.ensures c.in-Ok-unsent.ensures c.in-Ok-open.ensures.opened in
    let ended = rw c.in-Ok-Refused.field-0-is at (c.in-Ok-Refused.ensures.ends (start_of (g.L.Links.trace c.args.links.now) c.args.settings.now.server c.args.settings.now.login) under) in
    (reads_from {T = RunEnd} c.args.plan.now.size (reading g.I.Input c.make_part.new.input c.post_parts.new.input) (g.I.Input.faults c.args.input.now) (g.I.Input.shorts c.args.input.now) (g.I.Input.blame c.args.input.now) (Ok c.in-Ok-Refused.field-0) c.in-Ok.ensures.ends.0.faults c.in-Ok.ensures.ends.0.shorts c.in-Ok.ensures.ends.1 c.in-Ok-Refused.ensures.reads, subst (λ (k : Option (List ℕ)). WasRefused c.args.settings.now c.args.plan.now.size (length c.args.plan.now.parts) k (start_of (g.L.Links.trace c.args.links.now) c.args.settings.now.server c.args.settings.now.login) (g.L.Links.trace c.post_parts.new.links) c.in-Ok-Refused.code c.post_parts.new.sent) c.in-Ok.ensures.content ended)

pub returns-in-Ok-Over-clause-ends : goal.returns-in-Ok-Over-clause-ends
returns-in-Ok-Over-clause-ends g c =
    let under = opens c.args.settings.now c.args.plan.now.size (length c.args.plan.now.parts) (g.I.Input.content c.make_part.new.input) (start_of (g.L.Links.trace c.args.links.now) c.as_slice.result.now (option_copied c.as_ref.result)) (start_of (g.L.Links.trace c.args.links.now) c.args.settings.now.server c.args.settings.now.login) (g.L.Links.trace c.open.new.links) (g.L.Links.live c.open.new.links) c.in-Ok-open.dialog c.len.result c.in-Ok-unsent.sent (start_is (g.L.Links.trace c.args.links.now) c.as_slice.result.now c.args.settings.now.server (option_copied c.as_ref.result) c.args.settings.now.login c.as_slice.ensures c.as_ref.ensures.value) c.len.ensures c.in-Ok-unsent.ensures c.in-Ok-open.ensures.opened in
    let ended = rw c.in-Ok-Over.field-0-is at (c.in-Ok-Over.ensures.ends (start_of (g.L.Links.trace c.args.links.now) c.args.settings.now.server c.args.settings.now.login) under) in
    (reads_from {T = RunEnd} c.args.plan.now.size (reading g.I.Input c.make_part.new.input c.post_parts.new.input) (g.I.Input.faults c.args.input.now) (g.I.Input.shorts c.args.input.now) (g.I.Input.blame c.args.input.now) (Ok c.in-Ok-Over.field-0) c.in-Ok.ensures.ends.0.faults c.in-Ok.ensures.ends.0.shorts c.in-Ok.ensures.ends.1 c.in-Ok-Over.ensures.reads, subst (λ (k : Option (List ℕ)). WasOver c.args.settings.now c.args.plan.now.size (length c.args.plan.now.parts) k (start_of (g.L.Links.trace c.args.links.now) c.args.settings.now.server c.args.settings.now.login) (g.L.Links.trace c.post_parts.new.links) c.in-Ok-Over.why) c.in-Ok.ensures.content ended)

pub returns-in-Ok-Sent-clause-outcomes : goal.returns-in-Ok-Sent-clause-outcomes
returns-in-Ok-Sent-clause-outcomes g c =
    let under = opens c.args.settings.now c.args.plan.now.size (length c.args.plan.now.parts) (g.I.Input.content c.make_part.new.input) (start_of (g.L.Links.trace c.args.links.now) c.as_slice.result.now (option_copied c.as_ref.result)) (start_of (g.L.Links.trace c.args.links.now) c.args.settings.now.server c.args.settings.now.login) (g.L.Links.trace c.open.new.links) (g.L.Links.live c.open.new.links) c.in-Ok-open.dialog c.len.result c.in-Ok-unsent.sent (start_is (g.L.Links.trace c.args.links.now) c.as_slice.result.now c.args.settings.now.server (option_copied c.as_ref.result) c.args.settings.now.login c.as_slice.ensures c.as_ref.ensures.value) c.len.ensures c.in-Ok-unsent.ensures c.in-Ok-open.ensures.opened in
    sent_fits c.args.settings.now c.args.plan.now.size c.args.plan.now (g.I.Input.content c.make_part.new.input) (start_of (g.L.Links.trace c.args.links.now) c.args.settings.now.server c.args.settings.now.login) (g.L.Links.trace c.post_parts.new.links) c.post_parts.new.sent (rw c.in-Ok-Sent.field-0-is at (c.in-Ok-Sent.ensures.ends (start_of (g.L.Links.trace c.args.links.now) c.args.settings.now.server c.args.settings.now.login) under))

pub returns-in-Ok-Sent-clause-stops : goal.returns-in-Ok-Sent-clause-stops
returns-in-Ok-Sent-clause-stops g c =
    let under = opens c.args.settings.now c.args.plan.now.size (length c.args.plan.now.parts) (g.I.Input.content c.make_part.new.input) (start_of (g.L.Links.trace c.args.links.now) c.as_slice.result.now (option_copied c.as_ref.result)) (start_of (g.L.Links.trace c.args.links.now) c.args.settings.now.server c.args.settings.now.login) (g.L.Links.trace c.open.new.links) (g.L.Links.live c.open.new.links) c.in-Ok-open.dialog c.len.result c.in-Ok-unsent.sent (start_is (g.L.Links.trace c.args.links.now) c.as_slice.result.now c.args.settings.now.server (option_copied c.as_ref.result) c.args.settings.now.login c.as_slice.ensures c.as_ref.ensures.value) c.len.ensures c.in-Ok-unsent.ensures c.in-Ok-open.ensures.opened in
    sent_stops c.args.settings.now c.args.plan.now.size (length c.args.plan.now.parts) (g.I.Input.content c.make_part.new.input) (start_of (g.L.Links.trace c.args.links.now) c.args.settings.now.server c.args.settings.now.login) (g.L.Links.trace c.post_parts.new.links) c.post_parts.new.sent (rw c.in-Ok-Sent.field-0-is at (c.in-Ok-Sent.ensures.ends (start_of (g.L.Links.trace c.args.links.now) c.args.settings.now.server c.args.settings.now.login) under))

pub returns-in-Ok-Refused-clause-outcomes : goal.returns-in-Ok-Refused-clause-outcomes
returns-in-Ok-Refused-clause-outcomes g c =
    let under = opens c.args.settings.now c.args.plan.now.size (length c.args.plan.now.parts) (g.I.Input.content c.make_part.new.input) (start_of (g.L.Links.trace c.args.links.now) c.as_slice.result.now (option_copied c.as_ref.result)) (start_of (g.L.Links.trace c.args.links.now) c.args.settings.now.server c.args.settings.now.login) (g.L.Links.trace c.open.new.links) (g.L.Links.live c.open.new.links) c.in-Ok-open.dialog c.len.result c.in-Ok-unsent.sent (start_is (g.L.Links.trace c.args.links.now) c.as_slice.result.now c.args.settings.now.server (option_copied c.as_ref.result) c.args.settings.now.login c.as_slice.ensures c.as_ref.ensures.value) c.len.ensures c.in-Ok-unsent.ensures c.in-Ok-open.ensures.opened in
    refused_fits c.args.settings.now c.args.plan.now.size c.args.plan.now (g.I.Input.content c.make_part.new.input) (start_of (g.L.Links.trace c.args.links.now) c.args.settings.now.server c.args.settings.now.login) (g.L.Links.trace c.post_parts.new.links) c.in-Ok-Refused.code c.post_parts.new.sent (rw c.in-Ok-Refused.field-0-is at (c.in-Ok-Refused.ensures.ends (start_of (g.L.Links.trace c.args.links.now) c.args.settings.now.server c.args.settings.now.login) under))

pub returns-in-Ok-Refused-clause-stops : goal.returns-in-Ok-Refused-clause-stops
returns-in-Ok-Refused-clause-stops g c =
    let under = opens c.args.settings.now c.args.plan.now.size (length c.args.plan.now.parts) (g.I.Input.content c.make_part.new.input) (start_of (g.L.Links.trace c.args.links.now) c.as_slice.result.now (option_copied c.as_ref.result)) (start_of (g.L.Links.trace c.args.links.now) c.args.settings.now.server c.args.settings.now.login) (g.L.Links.trace c.open.new.links) (g.L.Links.live c.open.new.links) c.in-Ok-open.dialog c.len.result c.in-Ok-unsent.sent (start_is (g.L.Links.trace c.args.links.now) c.as_slice.result.now c.args.settings.now.server (option_copied c.as_ref.result) c.args.settings.now.login c.as_slice.ensures c.as_ref.ensures.value) c.len.ensures c.in-Ok-unsent.ensures c.in-Ok-open.ensures.opened in
    refused_stops c.args.settings.now c.args.plan.now.size (length c.args.plan.now.parts) (g.I.Input.content c.make_part.new.input) (start_of (g.L.Links.trace c.args.links.now) c.args.settings.now.server c.args.settings.now.login) (g.L.Links.trace c.post_parts.new.links) c.in-Ok-Refused.code c.post_parts.new.sent (rw c.in-Ok-Refused.field-0-is at (c.in-Ok-Refused.ensures.ends (start_of (g.L.Links.trace c.args.links.now) c.args.settings.now.server c.args.settings.now.login) under))

pub returns-clause-ends : goal.returns-clause-ends
returns-clause-ends g c =
    let under = opens c.args.settings.now c.args.plan.now.size (length c.args.plan.now.parts) (g.I.Input.content c.make_part.new.input) (start_of (g.L.Links.trace c.args.links.now) c.as_slice.result.now (option_copied c.as_ref.result)) (start_of (g.L.Links.trace c.args.links.now) c.args.settings.now.server c.args.settings.now.login) (g.L.Links.trace c.open.new.links) (g.L.Links.live c.open.new.links) c.in-Ok-open.dialog c.len.result c.in-Ok-unsent.sent (start_is (g.L.Links.trace c.args.links.now) c.as_slice.result.now c.args.settings.now.server (option_copied c.as_ref.result) c.args.settings.now.login c.as_slice.ensures c.as_ref.ensures.value) c.len.ensures c.in-Ok-unsent.ensures c.in-Ok-open.ensures.opened in
    let stops = subst (λ (k : Option (List ℕ)). WasStopped c.args.settings.now c.args.plan.now.size (length c.args.plan.now.parts) k (start_of (g.L.Links.trace c.args.links.now) c.args.settings.now.server c.args.settings.now.login) (g.L.Links.trace c.post_parts.new.links)) c.in-Ok.ensures.content (c.in-Err-post_parts.ensures.ends (start_of (g.L.Links.trace c.args.links.now) c.args.settings.now.server c.args.settings.now.login) under) in
    ends_unmade c.args.settings.now c.args.plan.now.size (length c.args.plan.now.parts) (g.I.Input.content c.args.input.now) _ (start_of (g.L.Links.trace c.args.links.now) c.args.settings.now.server c.args.settings.now.login) (g.L.Links.trace c.post_parts.new.links) c.in-Err-post_parts.unmade _ c.post_error-in-Err-post_parts.ensures (reads_from {T = RunEnd} c.args.plan.now.size (reading g.I.Input c.make_part.new.input c.post_parts.new.input) (g.I.Input.faults c.args.input.now) (g.I.Input.shorts c.args.input.now) (g.I.Input.blame c.args.input.now) (Err c.in-Err-post_parts.unmade) c.in-Ok.ensures.ends.0.faults c.in-Ok.ensures.ends.0.shorts c.in-Ok.ensures.ends.1 c.in-Err-post_parts.ensures.reads) stops
