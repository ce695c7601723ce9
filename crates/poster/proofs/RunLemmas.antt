-- How a run of a post ends, from how its parts did.
use Rattle.std.proofs.Common.{◌≡◌, ◌≤◌, ℕ, Bool, List, [], length, Option, Result, Ok, Err, ap, sym, subst, ◌∙◌, inr}
use Rattle.std.specs.Prelude.{OnSome, IfSome, All}
use Rattle.io_traits.specs.Causes.{Rose}
use Rattle.io_traits.specs.declared.blame.Blame.{Blame}
use Rattle.io_traits.specs.declared.links.LinkEvent.{LinkEvent}
use Rattle.nntp_lines.specs.declared.login.Login.{Login}
use Rattle.nntp_lines.specs.declared.why.Why.{Why}
use Rattle.input_files.specs.Reading.{Reading, IsReadIn}
use Rattle.input_files.proofs.ReadingLemmas.{from}
use Rattle.link_dialog.specs.declared.dialog.Dialog.{Dialog}
use Rattle.link_dialog.specs.Dialog.{answers_of}
use Rattle.link_dialog.specs.Replies.{Reply}
use Rattle.link_dialog.specs.Talk.{Start, IsOpen, Ends}
use Rattle.poster.specs.Index.{AreOutcomes}
use Rattle.poster.specs.Said.{Made, IsMade, ends_of, outcomes_of, out_of, blocks_of}
use Rattle.poster.specs.Session.{Session, StopsAt, Way, HasStopped, HasSent, WasOver, WasRefused, WasStopped, PostEnds, outcomes_in}
use Rattle.poster.specs.Posting.{NotMade, RunReads, UnderWay, error_of}
use Rattle.poster.specs.declared.desk.Unmade.{Unmade}
use Rattle.poster.specs.declared.desk.Unmade.TheVariants as unmade
use Rattle.poster.specs.declared.index.Sent.{Sent}
use Rattle.poster.specs.declared.parts.Plan.{Plan}
use Rattle.poster.specs.declared.session.PostError.{PostError}
use Rattle.poster.specs.declared.settings.Settings.{Settings}
use Rattle.poster.proofs.SaidLemmas.{FewOctets, count_of_outcomes, outcomes_short}
use Rattle.poster.proofs.SessionSteps.{begins, opening_over}

-- ---- the input

-- what is said of the input is said from an earlier moment on, up to which it stayed as it was
not_made_from : (size : ℕ) (r : Reading) (faults shorts : ℕ) (blame : Option (Option Blame)) (why : Unmade) → r.faults_before ≡ faults → r.shorts_before ≡ shorts → r.blame_before ≡ blame → NotMade size r why → NotMade size (from faults shorts blame r) why
not_made_from size r faults shorts blame unmade.Memory f s b quiet = record { faults = quiet.faults ∙ f; shorts = quiet.shorts ∙ s }
not_made_from size r faults shorts blame unmade.Input f s b failed = record {
  faults = subst (λ n. Rose n r.faults_now) f failed.faults;
  shorts = failed.shorts ∙ s;
  blamed = subst (λ (o : Option (Option Blame)). OnSome o (IfSome r.blame_now (IsReadIn 0 size))) b failed.blamed;
}
not_made_from size r faults shorts blame (unmade.Short at) f s b (short, inside) = (record { faults = short.faults ∙ f; shorts = subst (λ n. Rose n r.shorts_now) s short.shorts; place_is = short.place_is }, inside)

pub reads_from : {T : Type 0} (size : ℕ) (r : Reading) (faults shorts : ℕ) (blame : Option (Option Blame)) (result : Result T Unmade) → r.faults_before ≡ faults → r.shorts_before ≡ shorts → r.blame_before ≡ blame → RunReads size r result → RunReads size (from faults shorts blame r) result
reads_from size r faults shorts blame (Ok end) f s b quiet = record { faults = quiet.faults ∙ f; shorts = quiet.shorts ∙ s }
reads_from size r faults shorts blame (Err why) f s b reads = not_made_from size r faults shorts blame why f s b reads

-- a part wasn't made
ends_unmade_so : (s : Settings) (size total : ℕ) (content : Option (List ℕ)) (r : Reading) (start : Start) (now : Option (List LinkEvent)) (why : Unmade) → NotMade size r why → HasStopped s size total content start now → PostEnds s size total content r start now (Err (error_of why))
ends_unmade_so s size total content r start now unmade.Memory reads stops = (reads, stops)
ends_unmade_so s size total content r start now unmade.Input reads stops = (reads, stops)
ends_unmade_so s size total content r start now (unmade.Short at) reads stops = (reads.0, reads.1, stops)

pub ends_unmade : (s : Settings) (size total : ℕ) (content : Option (List ℕ)) (r : Reading) (start : Start) (now : Option (List LinkEvent)) (why : Unmade) (error : PostError) → error ≡ error_of why → NotMade size r why → WasStopped s size total content start now → PostEnds s size total content r start now (Err error)
ends_unmade s size total content r start now why error is reads stops = subst (λ (e : PostError). PostEnds s size total content r start now (Err e)) (sym is) (ends_unmade_so s size total content r start now why reads (inr stops))

-- ---- the opening

-- the start in the settings' terms
abbrev pub start_of : Option (List LinkEvent) → List ℕ → Option Login → Start
start_of before address login = record { before = before; address = address; login = login }

pub start_is : (before : Option (List LinkEvent)) (address server : List ℕ) (login own : Option Login) → address ≡ server → login ≡ own → start_of before address login ≡ start_of before server own
start_is before address server login own a l = ap (λ t. start_of before t login) a ∙ ap (λ o. start_of before server o) l

pub opens : (s : Settings) (size total : ℕ) (content : Option (List ℕ)) (start own : Start) (now : Option (List LinkEvent)) (live : List Bool) (dialog : Dialog) (count : ℕ) (sent_list : List Sent) → start ≡ own → count ≡ total → sent_list ≡ outcomes_of count [] [] → IsOpen start now live s.patience dialog → UnderWay s size total content own now dialog 0 sent_list
opens s size total content start own now live dialog count sent_list same all is o =
    subst (λ (st : Start). UnderWay s size total content st now dialog 0 sent_list) same
    (begins s size total content start now dialog o.2.0 sent_list o.0 o.2.1 (is ∙ ap (λ n. outcomes_of n [] []) all))

pub over_at_opening : (s : Settings) (size total : ℕ) (content : Option (List ℕ)) (start own : Start) (now : Option (List LinkEvent)) (made : Made) (reason : Why) → start ≡ own → IsMade s size content 1 made → 1 ≤ total → (out : List ℕ) × (replies : List Reply) × Ends start now s.patience [] out reason replies → WasOver s size total content own now reason
over_at_opening s size total content start own now made reason same m some (out, replies, e) =
    subst (λ (st : Start). WasOver s size total content st now reason) same (opening_over s size total content start now made out reason replies m some e)

-- ---- the outcomes

outcomes_fit : (way : Way) (s : Settings) (size : ℕ) (p : Plan) (content : Option (List ℕ)) (start : Start) (now : Option (List LinkEvent)) (sent_list : List Sent) → (x : Session way s size (length p.parts) content start now) → sent_list ≡ outcomes_in x → AreOutcomes p sent_list
outcomes_fit way s size p content start now sent_list x is =
    let ends = ends_of (answers_of start.login x.replies) (out_of start.login x.replies x.events) (blocks_of x.mades) in
    record {
      count = ap length is ∙ count_of_outcomes (length p.parts) ends x.mades;
      short = subst (λ (l : List Sent). All FewOctets l) (sym is) (outcomes_short (length p.parts) ends x.mades s size content 1 x.are_made);
    }

pub sent_fits : (s : Settings) (size : ℕ) (p : Plan) (content : Option (List ℕ)) (start : Start) (now : Option (List LinkEvent)) (sent_list : List Sent) → HasSent s size (length p.parts) content start now sent_list → AreOutcomes p sent_list
sent_fits s size p content start now sent_list x = outcomes_fit _ s size p content start now sent_list x.session x.outcomes

pub refused_fits : (s : Settings) (size : ℕ) (p : Plan) (content : Option (List ℕ)) (start : Start) (now : Option (List LinkEvent)) (code : ℕ) (sent_list : List Sent) → WasRefused s size (length p.parts) content start now code sent_list → AreOutcomes p sent_list
refused_fits s size p content start now code sent_list x = outcomes_fit _ s size p content start now sent_list x.session x.outcomes

-- ---- where it stopped

pub sent_stops : (s : Settings) (size total : ℕ) (content : Option (List ℕ)) (start : Start) (now : Option (List LinkEvent)) (sent_list : List Sent) → HasSent s size total content start now sent_list → (part : ℕ) × StopsAt part sent_list
sent_stops s size total content start now sent_list x = (length x.session.mades, x.stops)

pub refused_stops : (s : Settings) (size total : ℕ) (content : Option (List ℕ)) (start : Start) (now : Option (List LinkEvent)) (code : ℕ) (sent_list : List Sent) → WasRefused s size total content start now code sent_list → (part : ℕ) × StopsAt part sent_list
refused_stops s size total content start now code sent_list x = (length x.session.mades, x.stops)
