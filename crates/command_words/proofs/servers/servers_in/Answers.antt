use Rattle.std.proofs.Common.{◌∙◌, ◌+◌, ◌++◌, ap, arith, drop, length, List, ℕ, map, string_bytes, sym}
use Rattle.std.proofs.lemmas.List.{append-nil, length-map}
use Rattle.command_words.specs.Asked.{paired}
use Rattle.command_words.specs.Keys.{values_of}
use Rattle.command_words.specs.Servers.{servers_of}
use Rattle.command_words.proofs.KeysLemmas.{next_two, no_values, values_here, values_later, word_at}
use Rattle.command_words.proofs.ServersLemmas.{one_server_more, same_servers}
use Rattle.command_words.proofs.servers.servers_in.Goals as goal
use Rattle.command_words.proofs.servers.servers_in.Goals.{then-eq, else-eq}

pub add_server-requires : goal.add_server-requires
add_server-requires c =
    let here = next_two string_bytes c.args.words.now c.loop-at.at c.index-words-at.result c.as_str.result.now c.loop-at-test.true c.index-words-at.is c.as_str.ensures.value in
    let one = ap (λ (l : List (List ℕ)). length l) (values_here c.args.key.now _ _ _ _ here c.if-eq.ensures) in
    omega (arith, one, c.loop-at.invariant.room)

pub loop-at-preserved : goal.loop-at-preserved
loop-at-preserved c =
    let here = next_two string_bytes c.args.words.now c.loop-at.at c.index-words-at.result c.as_str.result.now c.loop-at-test.true c.index-words-at.is c.as_str.ensures.value in
    let values : ℕ → List (List ℕ) = λ at. values_of c.args.key.now (paired (drop at (map string_bytes c.args.words.now))) in
    let all : List (List ℕ) = values_of c.args.key.now (paired (map string_bytes c.args.words.now)) in
    elim c.if-eq.branch [
      | then-eq w ↦
          let value =
          word_at string_bytes c.args.words.now (c.loop-at.at + 1) w.index-words-at-then-eq.result w.as_bytes.result.now (omega (arith, c.loop-at-test.true)) w.index-words-at-then-eq.is w.as_bytes.ensures.value in
          let more = one_server_more c.loop-at.servers c.if-eq.servers (values c.loop-at.at) all (values (c.loop-at.at + 2)) _ w.as_bytes.result.now (w.servers-is ∙ w.add_server.ensures) value (values_here c.args.key.now _ _ _ _ here w.if-eq.ensures) c.loop-at.invariant.room c.loop-at.invariant.same in
          record { inside = omega arith; room = more.0; same = more.1 }
      | else-eq w ↦
          let same = same_servers c.loop-at.servers c.if-eq.servers (values c.loop-at.at) all (values (c.loop-at.at + 2)) w.servers-is (values_later c.args.key.now _ _ _ _ here w.if-eq.ensures) c.loop-at.invariant.room c.loop-at.invariant.same in
          record { inside = omega arith; room = same.0; same = same.1 }
    ]

pub returns : goal.returns
returns c =
    let none = no_values c.args.key.now (map string_bytes c.args.words.now) c.loop-at.at (omega (arith, length-map c.args.words.now string_bytes)) in
    sym (append-nil c.loop-at.servers) ∙ ap (λ l. c.loop-at.servers ++ servers_of l) (sym none) ∙ c.loop-at.invariant.same
