-- A newsgroup chosen, and one range asked, from what the dialog says.
use Rattle.std.proofs.Common.{◌≡◌, ◌≢◌, ◌+◌, ℕ, Bool, true, false, List, [], ◌∷◌, ◌++◌, Option, Some, refl, ap, subst, ◌∙◌, inl, inr}
use Rattle.std.specs.Prelude.{◌==◌, ◌||◌}
use Rattle.io_traits.specs.declared.links.LinkEvent.{LinkEvent}
use Rattle.nntp_lines.specs.GroupReply.{group_of}
use Rattle.nntp_lines.specs.declared.group.GroupReply.{GroupReply}
use Rattle.nntp_lines.specs.declared.why.Why.{Why}
use Rattle.nntp_lines.specs.declared.why.Why.TheVariants as why
use Rattle.link_dialog.specs.declared.answer.Answer.TheVariants as answer
use Rattle.link_dialog.specs.declared.awaited.Awaited.TheVariants.{Over as TheOver}
use Rattle.link_dialog.specs.declared.dialog.Dialog.{Dialog}
use Rattle.link_dialog.specs.Dialog.{Message, answers_of}
use Rattle.link_dialog.specs.Replies.{Reply}
use Rattle.link_dialog.specs.Talk.{Start, Rests, Ends, IsMessageRefused, Talked, patience_of, line_reply, quit_message}
use Rattle.link_dialog.specs.TalkBlock.{IsBlockHeard}
use Rattle.link_dialog.proofs.Sessions.{answers_more, no_answers}
use Rattle.overview_index.specs.Asking.{IsRangeAnswered, IsChosen}
use Rattle.overview_index.specs.Session.{Query, Range, group_message, over_message, goes_on, GroupWasRefused, IndexWasRefused, IndexWasOver, WasOverBefore}

-- ---- the replies behind those to the login

first_answer : (start : Start) (now : Option (List LinkEvent)) (dialog : Dialog) (replies : List Reply) (reply : Reply) → Rests start now dialog [] replies → answers_of start.login (replies ++ reply ∷ []) ≡ reply ∷ []
first_answer start now dialog replies reply r =
    answers_more start now dialog [] replies (reply ∷ []) r ∙ ap (λ (l : List Reply). l ++ reply ∷ []) (no_answers start now dialog replies r)

-- ---- GROUP

-- it has no reply
pub group_over : (q : Query) (start : Start) (then now : Option (List LinkEvent)) (dialog : Dialog) (replies : List Reply) (out : List ℕ) (reason : Why) → patience_of dialog ≡ q.patience → Rests start then dialog [] replies →
    Ends start now (patience_of dialog) (group_message q.group ∷ []) out reason replies → IndexWasOver q start now reason
group_over q start then now dialog replies out reason patience r e =
    let before : WasOverBefore q start now reason = record {
      replies = replies;
      said = group_message q.group ∷ [];
      said_is = inr refl;
      unheard = no_answers start then dialog replies r;
      out = out;
      ends = subst (λ (p : ℕ). Ends start now p (group_message q.group ∷ []) out reason replies) patience e;
    } in
    inl before

-- it is refused
pub group_refused : (q : Query) (start : Start) (then now : Option (List LinkEvent)) (dialog : Dialog) (replies : List Reply) (code : ℕ) (line : List ℕ) → patience_of dialog ≡ q.patience → Rests start then dialog [] replies → code ≢ 211 →
    Talked start now (patience_of dialog) (group_message q.group ∷ quit_message ∷ []) (replies ++ line_reply code line ∷ []) → IndexWasRefused q start now code
group_refused q start then now dialog replies code line patience r not t =
    let refused : GroupWasRefused q start now code = record {
      replies = replies ++ line_reply code line ∷ [];
      reply = line_reply code line;
      answers = first_answer start then dialog replies (line_reply code line) r;
      code_is = refl;
      refused = not;
      talked = subst (λ (p : ℕ). Talked start now p (group_message q.group ∷ quit_message ∷ []) (replies ++ line_reply code line ∷ [])) patience t;
    } in
    inl refused

-- the newsgroup is chosen, and the link goes on or not
pub group_chosen : (q : Query) (start : Start) (then now : Option (List LinkEvent)) (dialog : Dialog) (replies : List Reply) (group : GroupReply) (line : List ℕ) → patience_of dialog ≡ q.patience → Rests start then dialog [] replies → group_of line ≡ Some group →
    Rests start now dialog (group_message q.group ∷ []) (replies ++ line_reply 211 line ∷ []) → IsChosen q start now dialog (record { group = group; live = true })
group_chosen q start then now dialog replies group line patience r is rests = record {
  patience = patience;
  replies = replies ++ line_reply 211 line ∷ [];
  line = line;
  answers = first_answer start then dialog replies (line_reply 211 line) r;
  group_is = is;
  stands = rests;
}

pub group_chosen_at_end : (q : Query) (start : Start) (then now : Option (List LinkEvent)) (dialog : Dialog) (replies : List Reply) (group : GroupReply) (line out : List ℕ) → patience_of dialog ≡ q.patience → Rests start then dialog [] replies → group_of line ≡ Some group →
    Ends start now (patience_of dialog) (group_message q.group ∷ []) out why.Unasked (replies ++ line_reply 211 line ∷ []) → IsChosen q start now dialog (record { group = group; live = false })
group_chosen_at_end q start then now dialog replies group line out patience r is e = record {
  patience = patience;
  replies = replies ++ line_reply 211 line ∷ [];
  line = line;
  answers = first_answer start then dialog replies (line_reply 211 line) r;
  group_is = is;
  stands = (out, e);
}

-- ---- OVER

-- the next range may be asked, and the link goes on or not
pub range_heard : (start : Start) (now : Option (List LinkEvent)) (dialog : Dialog) (messages : List Message) (range : Range) (replies : List Reply) (code : ℕ) (kept : Bool) (block : List ℕ) → ((code == 224) || (code == 423)) ≡ true →
    IsBlockHeard start now dialog (messages ++ over_message range ∷ []) TheOver replies kept block (answer.Code code) → IsRangeAnswered start now dialog messages range replies code kept block true
range_heard start now dialog messages range replies code kept block goes h = record {
  reply = h.1.0;
  reply_is = h.1.1;
  goes = ap (λ n. (n == 224) || (n == 423)) h.1.1.code_is ∙ goes;
  stands = h.1.2;
}

pub range_heard_at_end : (start : Start) (now : Option (List LinkEvent)) (dialog : Dialog) (messages : List Message) (range : Range) (replies : List Reply) (code : ℕ) (kept : Bool) (block : List ℕ) → ((code == 224) || (code == 423)) ≡ true →
    IsBlockHeard start now dialog (messages ++ over_message range ∷ []) TheOver replies kept block (answer.Unasked code) → IsRangeAnswered start now dialog messages range replies code kept block false
range_heard_at_end start now dialog messages range replies code kept block goes h = record {
  reply = h.1.0;
  reply_is = h.1.1;
  goes = ap (λ n. (n == 224) || (n == 423)) h.1.1.code_is ∙ goes;
  stands = (_, h.1.2);
}

-- it is refused
pub range_refused : (start : Start) (now : Option (List LinkEvent)) (patience : ℕ) (messages : List Message) (range : Range) (replies : List Reply) (reply : Reply) (code : ℕ) → reply.code ≡ code → ((code == 224) || (code == 423)) ≡ false →
    Talked start now patience ((messages ++ over_message range ∷ []) ++ quit_message ∷ []) (replies ++ reply ∷ []) → (x : IsMessageRefused start now patience messages (over_message range) replies code) × (goes_on x.reply ≡ false)
range_refused start now patience messages range replies reply code is not t = (record { reply = reply; code_is = is; talked = t }, ap (λ n. (n == 224) || (n == 423)) is ∙ not)
