use Rattle.std.proofs.Common.{◌≡◌, ◌+◌, ◌++◌, ◌∷◌, [], ℕ, List, take, drop, length, arith, ap, sym, subst, ◌∙◌, append_assoc, length-take, length-drop}
use Rattle.yenc_bytes.specs.WriterLines.{is_empty, IsWriterLine}
use Rattle.yenc_text.specs.Text.{ended}
use Rattle.yenc_text.proofs.TextLaws.{piece_more}
use Rattle.yenc_text.proofs.pieces.fill_piece.Goals as goal

pub loop-used-preserved : goal.loop-used-preserved
loop-used-preserved c =
    let bytes = c.args.rest.now in
    let used = c.loop-used.used in
    let count = c.fill_line-count.result.0 in
    let width = c.fill_line-count.result.1 in
    let len = c.loop-used.len in
    let line : List ℕ = take width c.fill_line-count.new.buffer in
    let long : length line ≡ width = omega (arith, length-take width c.fill_line-count.new.buffer, c.fill_line-count.array_long, c.fill_line-count.ensures.room) in
    let sum : len + (width + 2) ≡ len + width + 2 = omega arith in
    let with_line : take (len + width) c.put_line.new.piece ≡ take len c.loop-used.piece ++ line =
    ap (λ (n : ℕ). take (len + n) c.put_line.new.piece) (sym long) ∙ c.put_line.ensures
    in
    let with_end : take (len + (width + 2)) c.put_line_end.new.piece ≡ take len c.loop-used.piece ++ ended line =
    ap (λ (n : ℕ). take n c.put_line_end.new.piece) sum ∙ c.put_line_end.ensures ∙ ap (λ t. t ++ 13 ∷ 10 ∷ []) with_line
    ∙ append_assoc (take len c.loop-used.piece) line (13 ∷ 10 ∷ [])
    in
    let is_line = subst (λ (left : List ℕ). IsWriterLine c.args.line (is_empty (drop count left)) (take count left) line) c.split_at.ensures.back c.fill_line-count.ensures.line in
    let left_long = ap length c.split_at.ensures.back in
    let count_most = c.fill_line-count.ensures.inside in
    let width_most = c.fill_line-count.ensures.room in
    record {
      piece = piece_more c.args.line bytes used count _ line _ c.loop-used.invariant.piece is_line with_end;
      inside = omega (arith, left_long, count_most, length-drop used bytes, c.loop-used.invariant.inside);
      room = omega (arith, width_most);
      started = λ some. omega (arith, c.fill_line-count.ensures.some);
    }
