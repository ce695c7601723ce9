-- One article posted, from what its dialog says.
use Rattle.std.proofs.Common.{◌≡◌, ◌≢◌, ◌<◌, ◌+◌, ◌≤◌, ℕ, true, List, [], ◌∷◌, ◌++◌, Option, None, refl, ap, sym, subst, ◌∙◌, append_assoc, append-nil, length, take, arith, lit≤}
use Rattle.std.specs.Prelude.{slice_get}
use Rattle.std.proofs.lemmas.Bool.{eq-eqb}
use Rattle.std.proofs.lemmas.List.{length-append, length-take}
use Rattle.io_traits.specs.declared.links.LinkEvent.{LinkEvent}
use Rattle.nntp_lines.specs.declared.why.Why.{Why}
use Rattle.nntp_lines.specs.declared.why.Why.TheVariants as why
use Rattle.link_dialog.specs.declared.dialog.Dialog.{Dialog}
use Rattle.link_dialog.specs.Dialog.{Message}
use Rattle.link_dialog.specs.Replies.{Reply}
use Rattle.link_dialog.specs.Talk.{Start, Rests, Ends, Talked, IsMessageRefused, IsSettled, bytes_said, patience_of, quit_message}
use Rattle.link_dialog.proofs.Sessions.{ends_longer, refused, refused_at_end, said_after, said_more}
use Rattle.poster.specs.Said.{post_message, article_message, part_messages, post_length, part_end, refusal_in}
use Rattle.poster.specs.Posting.{IsUnsent, IsHeld, IsBroken, IsPosting, IsSending}
use Rattle.poster.specs.declared.index.PartEnd.{PartEnd}
use Rattle.poster.specs.declared.index.PartEnd.TheVariants.{Unsure}
use Rattle.poster.specs.declared.posting.Posting.{Posting}
use Rattle.poster.specs.declared.posting.Posting.TheVariants as posting
use Rattle.poster.proofs.SaidLemmas.{no_refusal}

-- ---- POST

-- the link is over before a byte of the article
pub unsent : (start : Start) (now : Option (List LinkEvent)) (patience : ℕ) (messages : List Message) (block : List ℕ) (replies answers all : List Reply) (out whole : List ℕ) (reason : Why) →
    0 < length block → length answers ≤ 1 → length out ≤ post_length → refusal_in answers ≡ None → whole ≡ bytes_said start messages replies ++ out → all ≡ replies ++ answers →
    Ends start now patience (messages ++ post_message ∷ []) whole reason all → IsUnsent start now patience messages block replies reason
unsent start now patience messages block replies answers all out whole reason some few short permitted is heard e = record {
  answers = answers;
  out = out;
  unanswered = few;
  unbegun = short;
  over = record {
    permitted = permitted;
    ends = ends_longer start now patience (messages ++ post_message ∷ []) (article_message block ∷ []) (messages ++ part_messages block) whole (bytes_said start messages replies ++ out) reason all (replies ++ answers)
        (append_assoc messages (post_message ∷ []) (article_message block ∷ [])) (some, tt) is heard e;
  };
}

-- POST was cut off
pub post_cut : (start : Start) (now : Option (List LinkEvent)) (patience : ℕ) (messages : List Message) (block : List ℕ) (replies : List Reply) (n : ℕ) → 0 < length block → n < post_length →
    Ends start now patience (messages ++ post_message ∷ []) (bytes_said start messages replies ++ take n post_message.bytes) why.Ended replies → IsUnsent start now patience messages block replies why.Ended
post_cut start now patience messages block replies n some less e =
    unsent start now patience messages block replies [] replies (take n post_message.bytes) _ why.Ended some (lit≤ tt)
    (let short : length (take n post_message.bytes) ≤ length post_message.bytes = omega (arith, length-take n post_message.bytes) in short)
    refl refl (sym (append-nil replies)) e

-- POST has no reply
pub post_unheard : (start : Start) (now : Option (List LinkEvent)) (patience : ℕ) (messages : List Message) (block : List ℕ) (replies : List Reply) (reason : Why) → 0 < length block →
    Ends start now patience (messages ++ post_message ∷ []) (bytes_said start (messages ++ post_message ∷ []) replies) reason replies → IsUnsent start now patience messages block replies reason
post_unheard start now patience messages block replies reason some e =
    unsent start now patience messages block replies [] replies post_message.bytes _ reason some (lit≤ tt) (lit≤ tt) refl (said_more start messages post_message replies) (sym (append-nil replies)) e

-- POST is permitted, and bytes that nobody asked for end the link
pub post_unasked : (start : Start) (now : Option (List LinkEvent)) (patience : ℕ) (messages : List Message) (block : List ℕ) (replies : List Reply) (reply : Reply) → 0 < length block → reply.code ≡ 340 →
    Ends start now patience (messages ++ post_message ∷ []) (bytes_said start (messages ++ post_message ∷ []) replies) why.Unasked (replies ++ reply ∷ []) → IsUnsent start now patience messages block replies why.Unasked
post_unasked start now patience messages block replies reply some is e =
    unsent start now patience messages block replies (reply ∷ []) (replies ++ reply ∷ []) post_message.bytes _ why.Unasked some (lit≤ tt) (lit≤ tt) (no_refusal reply [] is (lit≤ tt)) (said_more start messages post_message replies) refl e

-- POST is refused, and the link goes on or not
pub post_refused : (start : Start) (now : Option (List LinkEvent)) (patience : ℕ) (messages : List Message) (replies : List Reply) (reply : Reply) → reply.code ≢ 340 →
    Talked start now patience ((messages ++ post_message ∷ []) ++ quit_message ∷ []) (replies ++ reply ∷ []) → (reply.code ≢ 340) × IsMessageRefused start now patience messages post_message replies reply.code
post_refused start now patience messages replies reply not t = (not, refused start now patience messages post_message replies reply reply.code refl t)

pub post_refused_at_end : (start : Start) (now : Option (List LinkEvent)) (patience : ℕ) (messages : List Message) (out : List ℕ) (reason : Why) (replies : List Reply) (reply : Reply) → reply.code ≢ 340 →
    Ends start now patience (messages ++ post_message ∷ []) out reason (replies ++ reply ∷ []) → (reply.code ≢ 340) × IsMessageRefused start now patience messages post_message replies reply.code
post_refused_at_end start now patience messages out reason replies reply not e = (not, refused_at_end start now patience messages post_message out reason replies reply reply.code refl e)

-- ---- the article

pub article_cut : (start : Start) (now : Option (List LinkEvent)) (patience : ℕ) (messages : List Message) (block : List ℕ) (replies : List Reply) (n : ℕ) → 0 < n → n < length block →
    Ends start now patience (messages ++ article_message block ∷ []) (bytes_said start messages replies ++ take n block) why.Ended replies → IsBroken start now patience messages block replies Unsure
article_cut start now patience messages block replies n some less e = record {
  answers = [];
  out = take n block;
  reason = why.Ended;
  few = lit≤ tt;
  end_is = refl;
  begun = (let e : 0 < length (take n block) = omega (arith, length-take n block) in e);
  ends = subst (λ (rs : List Reply). Ends start now patience (messages ++ article_message block ∷ []) (bytes_said start messages replies ++ take n block) why.Ended rs) (sym (append-nil replies)) e;
}

pub article_held : (start : Start) (now : Option (List LinkEvent)) (patience : ℕ) (messages : List Message) (block : List ℕ) (replies : List Reply) (n : ℕ) → n ≡ 0 →
    Ends start now patience (messages ++ article_message block ∷ []) (bytes_said start messages replies ++ take n block) why.Ended replies → IsHeld start now patience messages block replies why.Ended
article_held start now patience messages block replies n none e =
    let nothing : bytes_said start messages replies ++ take n block ≡ bytes_said start messages replies = ap (λ k. bytes_said start messages replies ++ take k block) none ∙ append-nil (bytes_said start messages replies) in
    record { ends = subst (λ (out : List ℕ). Ends start now patience (messages ++ article_message block ∷ []) out why.Ended replies) nothing e }

-- the article went out whole, and the link is over
pub article_ends : (start : Start) (now : Option (List LinkEvent)) (patience : ℕ) (messages : List Message) (block : List ℕ) (replies answers all : List Reply) (reason : Why) (end : PartEnd) → 0 < length block → length answers ≤ 1 → end ≡ part_end (slice_get answers 0) true → all ≡ replies ++ answers →
    Ends start now patience (messages ++ article_message block ∷ []) (bytes_said start (messages ++ article_message block ∷ []) replies) reason all → IsBroken start now patience messages block replies end
article_ends start now patience messages block replies answers all reason end some few is heard e = record {
  answers = answers;
  out = block;
  reason = reason;
  few = few;
  end_is = is;
  begun = some;
  ends = ends_longer start now patience (messages ++ article_message block ∷ []) [] (messages ++ article_message block ∷ []) _ (bytes_said start messages replies ++ block) reason all (replies ++ answers)
      (append-nil (messages ++ article_message block ∷ [])) tt (said_more start messages (article_message block) replies) heard e;
}

-- ---- POST and its article

-- what an article does behind a POST that was permitted is what both do
pub sending_posts : (start : Start) (now : Option (List LinkEvent)) (dialog : Dialog) (messages : List Message) (block : List ℕ) (replies : List Reply) (permit : Reply) (result : Posting) → IsSettled start.login replies → permit.code ≡ 340 → 0 < length block →
    IsSending start now dialog (messages ++ post_message ∷ []) block (replies ++ permit ∷ []) result → IsPosting start now dialog messages block replies result
sending_posts start now dialog messages block replies permit (posting.Answered end) settled is some t = record {
  permit = permit;
  answer = t.answer;
  permitted = is;
  end_is = t.end_is;
  rests = subst (λ (ms : List Message). Rests start now dialog ms (replies ++ permit ∷ t.answer ∷ [])) (append_assoc messages (post_message ∷ []) (article_message block ∷ []))
      (subst (λ (rs : List Reply). Rests start now dialog ((messages ++ post_message ∷ []) ++ article_message block ∷ []) rs) (append_assoc replies (permit ∷ []) (t.answer ∷ [])) t.rests);
}
sending_posts start now dialog messages block replies permit (posting.Refused code) settled is some t = absurd t
sending_posts start now dialog messages block replies permit (posting.Unsent reason) settled is some t = record {
  answers = permit ∷ [];
  out = post_message.bytes;
  unanswered = lit≤ tt;
  unbegun = lit≤ tt;
  over = record {
    permitted = no_refusal permit [] is (lit≤ tt);
    ends = ends_longer start now (patience_of dialog) ((messages ++ post_message ∷ []) ++ article_message block ∷ []) [] (messages ++ part_messages block) _ _ reason (replies ++ permit ∷ []) (replies ++ permit ∷ [])
        (append-nil _ ∙ append_assoc messages (post_message ∷ []) (article_message block ∷ [])) tt (said_after start messages post_message replies (permit ∷ []) settled) refl t.ends;
  };
}
sending_posts start now dialog messages block replies permit (posting.Cut end) settled is some t =
    let both : length (post_message.bytes ++ t.out) ≡ length post_message.bytes + length t.out = length-append post_message.bytes t.out in
    let begun : length post_message.bytes < length (post_message.bytes ++ t.out) = omega (arith, both, t.begun) in
    record {
      answers = permit ∷ t.answers;
      out = post_message.bytes ++ t.out;
      reason = t.reason;
      permitted = eq-eqb permit.code 340 is;
      end_is = t.end_is;
      begun = begun;
      over = record {
        permitted = no_refusal permit t.answers is t.few;
        ends = ends_longer start now (patience_of dialog) ((messages ++ post_message ∷ []) ++ article_message block ∷ []) [] (messages ++ part_messages block) _ _ t.reason ((replies ++ permit ∷ []) ++ t.answers) (replies ++ permit ∷ t.answers)
            (append-nil _ ∙ append_assoc messages (post_message ∷ []) (article_message block ∷ [])) tt
            (ap (λ out. out ++ t.out) (said_after start messages post_message replies (permit ∷ []) settled) ∙ append_assoc (bytes_said start messages replies) post_message.bytes t.out)
            (append_assoc replies (permit ∷ []) t.answers) t.ends;
      };
    }
