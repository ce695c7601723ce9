use Rattle.std.proofs.Common.{◌≡◌, ◌∙◌, sym, ap, true, length}
use Rattle.pipeline_core.specs.Links.{has_link_left}
use Rattle.pipeline_core.specs.Searches.{first_from}
use Rattle.pipeline_core.specs.PipelineAt.{Pipeline}
use Rattle.pipeline_core.specs.Pipeline.{can_be_asked, next_segment}
use Rattle.pipeline_core.proofs.Free.{found_is_next, none_is_next, link_left, may_ask_live}
use Rattle.pipeline_core.proofs.CallReads.{link_read}
use Rattle.pipeline_core.proofs.core_state.Core.find_next.Goals as goal

pub first_to_ask-requires-clause-left : goal.first_to_ask-requires-clause-left
first_to_ask-requires-clause-left c =
    let p : Pipeline = record { links = c.self.inside.links.items; segments = c.self.inside.segments.items; levels = c.self.inside.levels.items; depth = c.self.inside.depth } in
    let is : p ≡ c.args.self.now = c.self.view_is in
    let read = link_read c.args.link c.index-asker.result.now c.self.view_is c.requires.link c.index-asker.ensures in
    let left : has_link_left p.links c.index-asker.result.now.server ≡ true = link_left p.links c.args.link c.index-asker.result.now read (may_ask_live p.depth c.index-asker.result.now (sym c.may_ask.ensures ∙ c.if-may_ask.true)) in
    ap (λ (q : Pipeline). has_link_left q.links c.server-server.result) (sym is) ∙ ap (λ v. has_link_left p.links v) c.server-server.ensures ∙ left

pub returns-then-may_ask : goal.returns-then-may_ask
returns-then-may_ask c =
    let p : Pipeline = record { links = c.self.inside.links.items; segments = c.self.inside.segments.items; levels = c.self.inside.levels.items; depth = c.self.inside.depth } in
    let is : p ≡ c.args.self.now = c.self.view_is in
    let read = link_read c.args.link c.index-asker.result.now c.self.view_is c.requires.link c.index-asker.ensures in
    c.first_to_ask.ensures
    ∙ ap (λ (q : Pipeline). first_from (can_be_asked q c.server-server.result) 0 (length q.segments)) (sym is)
    ∙ ap (λ v. first_from (can_be_asked p v) 0 (length p.segments)) c.server-server.ensures
    ∙ found_is_next p c.args.link c.index-asker.result.now read (sym c.may_ask.ensures ∙ c.if-may_ask.true)
    ∙ ap (λ (q : Pipeline). next_segment q c.args.link) is

pub returns-else-may_ask : goal.returns-else-may_ask
returns-else-may_ask c =
    let p : Pipeline = record { links = c.self.inside.links.items; segments = c.self.inside.segments.items; levels = c.self.inside.levels.items; depth = c.self.inside.depth } in
    let is : p ≡ c.args.self.now = c.self.view_is in
    let read = link_read c.args.link c.index-asker.result.now c.self.view_is c.requires.link c.index-asker.ensures in
    none_is_next p c.args.link c.index-asker.result.now read (sym c.may_ask.ensures ∙ c.if-may_ask.false)
    ∙ ap (λ (q : Pipeline). next_segment q c.args.link) is
