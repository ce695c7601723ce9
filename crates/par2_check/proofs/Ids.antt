-- Ids, each where it stands first.
use Rattle.std.proofs.Common.{◌≡◌, ℕ, suc, ◌+◌, ◌*◌, List, [], ◌∷◌, drop, sym, ap, ◌∙◌, arith}
use Rattle.std.specs.List.{fold}
use Rattle.std.proofs.lemmas.List.Sums.{fold-append}
use Rattle.par2_check.specs.Bodies.{pieces, with_id}
use Rattle.par2_check.specs.Packets.{part}
use Rattle.par2_check.proofs.Parts.{part-drop}

-- the ids with the next one
pub one_more : (packet : List ℕ) (keys more : List (List ℕ)) (i : ℕ) (id : List ℕ) → keys ≡ fold with_id [] (pieces 16 (drop 76 packet) i) → id ≡ part (76 + 16 * i) 16 packet
    → more ≡ with_id keys id → more ≡ fold with_id [] (pieces 16 (drop 76 packet) (i + 1))
one_more packet keys more i id are own is =
    let ids : List (List ℕ) = pieces 16 (drop 76 packet) i in
    let next : List ℕ = part (16 * i) 16 (drop 76 packet) in
    let next_is : id ≡ next = own ∙ sym (part-drop (16 * i) 16 76 packet) in
    let e : suc i ≡ i + 1 = omega arith in
    is ∙ ap (λ (k : List (List ℕ)). with_id k id) are ∙ ap (with_id (fold with_id [] ids)) next_is ∙ sym (fold-append with_id [] ids (next ∷ []))
    ∙ ap (λ n. fold with_id [] (pieces 16 (drop 76 packet) n)) e
