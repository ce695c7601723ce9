use Rattle.std.proofs.Common.{◌≡◌, ℕ, List, Ok, Err, ap, arith, length, subst, take, sym, ◌∙◌}
use Rattle.lists.specs.Text.{text_lines}
use Rattle.yenc_body.specs.declared.part.Part.{Part}
use Rattle.yenc_body.specs.BodyReading.{body_of}
use Rattle.yenc_body.proofs.BodyLaws.{AreLinesOfBytes}
use Rattle.body_text.proofs.TextBytes.{text_of_bytes}
use Rattle.body_text.proofs.WholeText.{each_body, each_fault, first_written, told}
use Rattle.body_text.proofs.decoding.decode_text.Goals as goal

part_read : (c : goal.After-part_of) → body_of (text_lines c.args.text) ≡ Ok c.part_of.result
part_read c =
    let same : c.deref_mut.result.now ≡ c.args.text = c.deref_mut.ensures.value ∙ c.into_vec-buf.ensures in
    let long : length c.decode_lines.new.buf ≡ c.into_vec-buf.result.len = omega (arith, c.decode_lines.auto.buf, c.deref_mut.ensures.len) in
    let content : take c.in-Ok.count c.decode_lines.new.buf ≡ c.from_vec.result = sym (c.from_vec.ensures ∙ c.truncate.ensures.items ∙ first_written c.into_vec-buf.result.items c.decode_lines.new.buf c.into_vec-buf.result.len c.in-Ok.count (omega (arith, c.deref_mut.ensures.len, ap length c.deref_mut.ensures.value)) long) in
    let part : List ℕ → Part = λ bytes. record { begin = c.in-Ok.head.begin; first = c.in-Ok.head.first; last = c.in-Ok.head.last; content = bytes } in
    ap (λ t. body_of (text_lines t)) (sym same) ∙ c.in-Ok.ensures.reads.1 ∙ ap (λ bytes. Ok (part bytes)) content ∙ ap Ok (sym c.part_of.ensures)

fault_read : (c : goal.After-drop-buf) → body_of (text_lines c.args.text) ≡ Err c.in-Err.fault
fault_read c =
    let same : c.deref_mut.result.now ≡ c.args.text = c.deref_mut.ensures.value ∙ c.into_vec-buf.ensures in
    ap (λ t. body_of (text_lines t)) (sym same) ∙ c.in-Err.ensures.reads

pub returns-in-Ok-clause-answer : goal.returns-in-Ok-clause-answer
returns-in-Ok-clause-answer c =
    let same : c.deref_mut.result.now ≡ c.args.text = c.deref_mut.ensures.value ∙ c.into_vec-buf.ensures in
    told (text_lines c.args.text) (Ok c.part_of.result) (subst (λ t. AreLinesOfBytes (text_lines t)) same (text_of_bytes c.deref_mut.result.now c.decode_lines.ensures.bytes)) (part_read c)

pub returns-in-Ok-clause-each_body : goal.returns-in-Ok-clause-each_body
returns-in-Ok-clause-each_body c = each_body (text_lines c.args.text) (Ok c.part_of.result) (part_read c)

pub returns-in-Ok-clause-each_fault : goal.returns-in-Ok-clause-each_fault
returns-in-Ok-clause-each_fault c = each_fault (text_lines c.args.text) (Ok c.part_of.result) (part_read c)

pub returns-in-Err-clause-answer : goal.returns-in-Err-clause-answer
returns-in-Err-clause-answer c =
    let same : c.deref_mut.result.now ≡ c.args.text = c.deref_mut.ensures.value ∙ c.into_vec-buf.ensures in
    told (text_lines c.args.text) (Err c.in-Err.fault) (subst (λ t. AreLinesOfBytes (text_lines t)) same (text_of_bytes c.deref_mut.result.now c.decode_lines.ensures.bytes)) (fault_read c)

pub returns-in-Err-clause-each_body : goal.returns-in-Err-clause-each_body
returns-in-Err-clause-each_body c = each_body (text_lines c.args.text) (Err c.in-Err.fault) (fault_read c)

pub returns-in-Err-clause-each_fault : goal.returns-in-Err-clause-each_fault
returns-in-Err-clause-each_fault c = each_fault (text_lines c.args.text) (Err c.in-Err.fault) (fault_read c)
