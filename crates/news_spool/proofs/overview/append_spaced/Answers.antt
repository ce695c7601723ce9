use Rattle.std.proofs.Common.{arith, ◌∙◌, ◌++◌, ◌∷◌, [], List, ℕ, ap}
use Rattle.news_spool.proofs.SpacedText.{appended_more, appended_whole}
use Rattle.news_spool.proofs.overview.append_spaced.Goals as goal

pub returns-then-end-text : goal.returns-then-end-text
returns-then-end-text c =
    appended_whole c.args.text.now c.args.out.now c.loop-at.out c.extend.new.self c.loop-at.at c.plain_len.result c.loop-at.invariant.left
    c.plain_len.ensures.len c.if-end-text.true c.in_ok-extend.ensures.ok

pub loop-at-preserved : goal.loop-at-preserved
loop-at-preserved c = record {
  within = omega arith;
  left = appended_more c.args.text.now c.args.out.now c.loop-at.out c.extend-in-loop-at.new.self c.loop-at.at c.plain_len.result c.loop-at.invariant.left
      c.plain_len.ensures.len (omega arith) (c.in_ok-extend-2.ensures.ok ∙ ap (λ (t : List ℕ). t ++ 32 ∷ []) c.in_ok-extend.ensures.ok);
}
