-- A part posted, and what became of it noted.
use Rattle.std.proofs.Common.{◌-◌, List, ℕ, length, arith, subst}
use Rattle.link_dialog.specs.Talk.{patience_of}
use Rattle.poster.specs.Said.{blocks_of, messages_of}
use Rattle.poster.specs.Posting.{IsPartAnswered, IsArticleCut, IsUnsent, made_on}
use Rattle.poster.proofs.SessionSteps.{IsNext, part_answered, part_cut, part_refused, part_unsent, first_unsent}
use Rattle.poster.proofs.session.post_part.Goals as goal

pub returns-in-Answered-clause-ends : goal.returns-in-Answered-clause-ends
returns-in-Answered-clause-ends g c s size content start u made =
    part_answered s size (length c.args.sent.now) content start (g.L.Links.trace c.args.links.now) (g.L.Links.trace c.post_article.new.links) c.args.dialog (c.args.part - 1) c.args.part (made_on c.args.desk.now) c.in-Answered.end c.args.sent.now c.set.new.self u (omega (arith, c.requires.first)) c.requires.last made c.set.ensures
    (subst (λ (block : List ℕ). IsPartAnswered start (g.L.Links.trace c.post_article.new.links) c.args.dialog (messages_of (blocks_of u.mades)) block u.replies c.in-Answered.end) c.as_slice.ensures (c.in-Answered.ensures.posted start (messages_of (blocks_of u.mades)) u.replies u.rests))

pub returns-in-Refused-clause-ends : goal.returns-in-Refused-clause-ends
returns-in-Refused-clause-ends g c s size content start u made =
    let next : IsNext s size (length c.args.sent.now) content start (g.L.Links.trace c.args.links.now) c.args.dialog (c.args.part - 1) c.args.part (made_on c.args.desk.now) c.args.sent.now = record { under_way = u; next = omega (arith, c.requires.first); last = c.requires.last; made_is = made } in
    let posted = c.in-Refused.ensures.posted start (messages_of (blocks_of u.mades)) u.replies u.rests in
    part_refused s size (length c.args.sent.now) content start (g.L.Links.trace c.args.links.now) (g.L.Links.trace c.post_article.new.links) c.args.dialog (c.args.part - 1) c.args.part (made_on c.args.desk.now) c.in-Refused.code c.args.sent.now c.set-in-Refused.new.self next c.set-in-Refused.ensures posted.0 posted.1

pub returns-then-part-eq1-clause-ends : goal.returns-then-part-eq1-clause-ends
returns-then-part-eq1-clause-ends g c s size content start u made =
    let next : IsNext s size (length c.args.sent.now) content start (g.L.Links.trace c.args.links.now) c.args.dialog (c.args.part - 1) c.args.part (made_on c.args.desk.now) c.args.sent.now = record { under_way = u; next = omega (arith, c.requires.first); last = c.requires.last; made_is = made } in
    first_unsent s size (length c.args.sent.now) content start (g.L.Links.trace c.args.links.now) (g.L.Links.trace c.post_article.new.links) c.args.dialog (c.args.part - 1) c.args.part (made_on c.args.desk.now) c.in-Unsent.why c.args.sent.now (omega (arith, c.if-part-eq1.true)) next
    (subst (λ (block : List ℕ). IsUnsent start (g.L.Links.trace c.post_article.new.links) (patience_of c.args.dialog) (messages_of (blocks_of u.mades)) block u.replies c.in-Unsent.why) c.as_slice.ensures (c.in-Unsent.ensures.posted start (messages_of (blocks_of u.mades)) u.replies u.rests))

pub returns-else-part-eq1-clause-ends : goal.returns-else-part-eq1-clause-ends
returns-else-part-eq1-clause-ends g c s size content start u made =
    let next : IsNext s size (length c.args.sent.now) content start (g.L.Links.trace c.args.links.now) c.args.dialog (c.args.part - 1) c.args.part (made_on c.args.desk.now) c.args.sent.now = record { under_way = u; next = omega (arith, c.requires.first); last = c.requires.last; made_is = made } in
    part_unsent s size (length c.args.sent.now) content start (g.L.Links.trace c.args.links.now) (g.L.Links.trace c.post_article.new.links) c.args.dialog (c.args.part - 1) c.args.part (made_on c.args.desk.now) c.in-Unsent.why c.args.sent.now c.set-in-Unsent.new.self (omega (arith, c.requires.first, c.if-part-eq1.false)) next c.set-in-Unsent.ensures
    (subst (λ (block : List ℕ). IsUnsent start (g.L.Links.trace c.post_article.new.links) (patience_of c.args.dialog) (messages_of (blocks_of u.mades)) block u.replies c.in-Unsent.why) c.as_slice.ensures (c.in-Unsent.ensures.posted start (messages_of (blocks_of u.mades)) u.replies u.rests))

pub returns-in-Cut-clause-ends : goal.returns-in-Cut-clause-ends
returns-in-Cut-clause-ends g c s size content start u made =
    let next : IsNext s size (length c.args.sent.now) content start (g.L.Links.trace c.args.links.now) c.args.dialog (c.args.part - 1) c.args.part (made_on c.args.desk.now) c.args.sent.now = record { under_way = u; next = omega (arith, c.requires.first); last = c.requires.last; made_is = made } in
    part_cut s size (length c.args.sent.now) content start (g.L.Links.trace c.args.links.now) (g.L.Links.trace c.post_article.new.links) c.args.dialog (c.args.part - 1) c.args.part (made_on c.args.desk.now) c.in-Cut.end c.args.sent.now c.set-in-Cut.new.self next c.set-in-Cut.ensures
    (subst (λ (block : List ℕ). IsArticleCut start (g.L.Links.trace c.post_article.new.links) (patience_of c.args.dialog) (messages_of (blocks_of u.mades)) block u.replies c.in-Cut.end) c.as_slice.ensures (c.in-Cut.ensures.posted start (messages_of (blocks_of u.mades)) u.replies u.rests))
