-- The five lines, one after the other.
use Rattle.std.proofs.lemmas.Result.{on_ok_weaker}
use Rattle.article_head.proofs.HeadLaws.{five_appended}
use Rattle.article_head.proofs.head.append_head.Goals as goal

pub returns-clause-ok : goal.returns-clause-ok
returns-clause-ok c =
    on_ok_weaker c.push.result
    (λ last. five_appended c.args.out.now c.push_field.new.out c.push_field-2.new.out c.push_subject.new.out c.push_id.new.out c.push.new.self _ _ _ _ _
    c.in_ok-push_field.ensures.ok c.in_ok-push_field-2.ensures.ok c.in_ok-push_subject.ensures.ok c.in_ok-push_id.ensures.ok last)
    c.push.ensures.ok
