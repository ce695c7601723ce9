use Rattle.std.proofs.Common.{ℕ, ◌∙◌, Some, ap, arith, length-drop, sym, take_all}
use Rattle.yenc_lines.proofs.ItemLaws.{no_item, item_at}
use Rattle.yenc_lines.proofs.item.item_of.Goals as goal

pub returns-then-at-piece : goal.returns-then-at-piece
returns-then-at-piece c = no_item c.args.known.now c.args.piece.now c.first_at-at.result c.first_at-at.ensures.place c.if-at-piece.true

pub returns : goal.returns
returns c =
    item_at c.args.known.now c.args.piece.now c.first_at-at.result (Some c.in_ok-key.key) c.first_at-at.ensures.place (omega (arith, c.first_at-at.ensures.inside)) c.in_ok-key.ensures
    ∙ ap (λ v. Some (record { key = c.in_ok-key.key; value = v })) (sym (take_all _ _ (omega (arith, length-drop {A = ℕ}))))
