-- What is in the grammar that is asked for, and within the limits, is refused for a short read alone.
use Rattle.std.proofs.Common.{◌≡◌, ℕ, List, Option, Some, None, inl, inr, ◌⊎◌, arith, length}
use Rattle.io_traits.specs.Causes.{Rose}
use Rattle.nzb_writer.specs.Nzb.{IsNzb}
use Rattle.nzb_index.specs.NzbReading.{Refusal, past}
use Rattle.nzb_index.specs.Refusal.{HasOneIndex, HasOneRefusal, IsTextRefused}
use Rattle.nzb_writer.specs.declared.index.Index.{Index}
use Rattle.nzb_index.proofs.NzbLaws.{one_answer_of}
use Rattle.command_words.specs.CommandLine.{BodyAsked, Words}
use Rattle.command_words.specs.CommandLine.Words.{Asks}
use Rattle.command_words.specs.CommandLine.Command.{Check, Decode, Post}
use Rattle.command_words.specs.Post.{PostAsked}
use Rattle.input_files.specs.Reading.{Reading, Exceeds, most_text}
use Rattle.run_ends.specs.Status.{status_of}
use Rattle.run_ends.specs.declared.end.End.{End}
use Rattle.run_ends.specs.declared.end.End.TheVariants.{Short, Limit as Passes, NoBody, NoReply, NoNzb, LoginBroken}
use Rattle.run_ends.specs.declared.end.Limit.{Limit}
use Rattle.run_ends.specs.declared.end.Limit.TheVariants as limits
use Rattle.run_ends.specs.declared.end.ReplyFault.{ReplyFault}
use Rattle.yenc_body.specs.declared.fault.Fault.{Fault}
use Rattle.usebin_cli.specs.Check.{Checks, IsNoIndex, PassesLimit}
use Rattle.usebin_cli.specs.Decode.{Decodes, IsNoBody, IsNoReply}
use Rattle.usebin_cli.specs.Linked.{Linked}
use Rattle.usebin_cli.specs.Post.{FitsAt, FitsPost, IsRefusedFile, IsTooLarge, Posts}
use Rattle.usebin_cli.specs.Run.{EndsSo, HasRead, IsInGrammar}
use Rattle.usebin_cli.specs.Writing.{Written}
use Rattle.usebin_cli.proofs.LoginLemmas.{not_broken, not_long, same_file}
use Rattle.usebin_cli.proofs.ReplyLemmas.{body_or_no_body, body_or_no_reply}

same_text : (a b : List ℕ) (o : Option (List ℕ)) → o ≡ Some a → o ≡ Some b → a ≡ b
same_text a b o e g = cc

-- ---- a body

not_too_long : (current : Option ℕ) (asked : BodyAsked) (files : List (List ℕ × List ℕ)) → Exceeds most_text current → IsInGrammar (Asks (Decode asked)) (Some files) current → ⊥
not_too_long None asked files over inside = over
not_too_long (Some len) asked files over (p, decoded, fits) = omega (arith, over, fits)

has_body : (asked : BodyAsked) (files : List (List ℕ × List ℕ)) (current : Option ℕ) (f : Fault) → IsNoBody asked (Some files) current f → IsInGrammar (Asks (Decode asked)) (Some files) current → ⊥
has_body asked files current f (text, saved, fault) (p, (other, told, decoded), fits) =
    let same : other ≡ text = same_text other text _ told.told saved.told in
    body_or_no_body asked.form text p f (rw same at decoded) fault

is_reply : (asked : BodyAsked) (files : List (List ℕ × List ℕ)) (current : Option ℕ) (f : ReplyFault) → IsNoReply asked (Some files) current f → IsInGrammar (Asks (Decode asked)) (Some files) current → ⊥
is_reply asked files current f (text, saved, fault) (p, (other, told, decoded), fits) =
    let same : other ≡ text = same_text other text _ told.told saved.told in
    body_or_no_reply asked.form text p f (rw same at decoded) fault

of_decode : (asked : BodyAsked) (files : List (List ℕ × List ℕ)) (r : Reading) (w : Written) (told : Option (List ℕ)) (end : End) → HasRead end r → Decodes asked (Some files) r w told end → IsInGrammar (Asks (Decode asked)) (Some files) r.current →
    status_of end ≡ 6 → Rose r.shorts_before r.shorts_now
of_decode asked files r w told (Short place) read so inside six = read.shorts
of_decode asked files r w told (Passes limits.Text) read so inside six = absurd (not_too_long r.current asked files so inside)
of_decode asked files r w told (NoBody f) read so inside six = absurd (has_body asked files r.current f so inside)
of_decode asked files r w told (NoReply f) read so inside six = absurd (is_reply asked files r.current f so inside)
of_decode asked files r w told (Passes other) read so inside six = absurd so
of_decode asked files r w told (NoNzb place reason) read so inside six = absurd so
of_decode asked files r w told (LoginBroken number) read so inside six = absurd so
of_decode asked files r w told other read so inside six = absurd (omega (arith, six))

-- ---- an NZB

nzb_not_refused : (text : List ℕ) (index : Index) (refusal : Refusal) → IsNzb text index → IsTextRefused text refusal → ⊥
nzb_not_refused text index refusal is refused = by (one_answer_of text)
  where
    by : ((i : Index) × HasOneIndex text i) ⊎ ((e : Refusal) × HasOneRefusal text e) → ⊥
    by (inl (i, one)) = one.no_refusal refusal refused
    by (inr (e, one)) = one.no_index index is

is_nzb : (path : List ℕ) (files : List (List ℕ × List ℕ)) (current : Option ℕ) (refusal : Refusal) → IsNoIndex path (Some files) current refusal → IsInGrammar (Asks (Check path)) (Some files) current → ⊥
is_nzb path files current refusal (text, saved, refused) (index, (other, told, listed)) =
    let same : other ≡ text = same_text other text _ told.told saved.told in
    nzb_not_refused text index refusal (rw same at listed) refused

some_same : {m n : ℕ} → Some m ≡ Some n → m ≡ n
some_same e = cc

nzb_not_too_long : (current : Option ℕ) (path : List ℕ) (files : List (List ℕ × List ℕ)) → Exceeds most_text current → IsInGrammar (Asks (Check path)) (Some files) current → ⊥
nzb_not_too_long None path files over inside = over
nzb_not_too_long (Some len) path files over (index, (text, saved, listed)) = omega (arith, over, some_same saved.size, listed.short)

no_limit : (path : List ℕ) (files : List (List ℕ × List ℕ)) (r : Reading) (limit : Limit) → PassesLimit path (Some files) r limit → IsInGrammar (Asks (Check path)) (Some files) r.current → ⊥
no_limit path files r limit (inl long) inside = nzb_not_too_long r.current path files long.1 inside
no_limit path files r limit (inr (passed, is, none)) inside = is_nzb path files r.current (past passed) none inside

of_check : (path : List ℕ) (files : List (List ℕ × List ℕ)) (r : Reading) (w : Written) (end : End) → HasRead end r → Checks path (Some files) r w end → IsInGrammar (Asks (Check path)) (Some files) r.current →
    status_of end ≡ 6 → Rose r.shorts_before r.shorts_now
of_check path files r w (Short place) read so inside six = read.shorts
of_check path files r w (Passes limit) read so inside six = absurd (no_limit path files r limit so inside)
of_check path files r w (NoNzb place reason) read so inside six = absurd (is_nzb path files r.current _ so inside)
of_check path files r w (NoBody f) read so inside six = absurd so
of_check path files r w (NoReply f) read so inside six = absurd so
of_check path files r w (LoginBroken number) read so inside six = absurd so
of_check path files r w other read so inside six = absurd (omega (arith, six))

-- ---- a file that is to be posted, and its login file

-- a file that fits isn't too large
not_large : (asked : PostAsked) (bytes : List ℕ) (current : Option ℕ) (limit : Limit) → FitsPost asked (Some (length bytes)) → current ≡ Some (length bytes) → IsTooLarge asked current limit → ⊥
not_large asked bytes current limits.File fits is large = let more = rw is at large in omega (arith, fits.0, more)
not_large asked bytes current limits.Segments fits is large = let more = rw is at large in omega (arith, fits.1, more.1)
not_large asked bytes current other fits is large = absurd large

not_refused : (asked : PostAsked) (files : List (List ℕ × List ℕ)) (current : Option ℕ) (limit : Limit) → FitsAt asked files → IsRefusedFile asked (Some files) current limit → ⊥
not_refused asked files current limit (bytes, there, fits) refused =
    let same : refused.told.0 ≡ bytes = same_file asked.path files refused.told.0 bytes refused.told.1 there in
    not_large asked bytes current limit fits (rw same at refused.told.2) refused.large

of_post : (asked : PostAsked) (files : List (List ℕ × List ℕ)) (moment : ℕ) (r : Reading) (t : Linked) (w : Written) (told : Option (List ℕ)) (end : End) → HasRead end r → Posts asked (Some files) moment r t w told end →
    IsInGrammar (Asks (Post asked)) (Some files) r.current → status_of end ≡ 6 → Rose r.shorts_before r.shorts_now
of_post asked files moment r t w told (Short place) read so inside six = read.shorts
of_post asked files moment r t w told (Passes limits.Login) read so inside six = absurd (not_long asked.server so.0.path asked.login files inside.0 r.current so.0.is_named inside.1 so.0.long so.0.told)
of_post asked files moment r t w told (Passes other) read so inside six = absurd (not_refused asked files r.current other inside.2 so.0)
of_post asked files moment r t w told (LoginBroken number) read so inside six = absurd (not_broken asked.server so.0.path asked.login files inside.0 so.0.text number so.0.is_named inside.1 so.0.file.told so.0.broken)
of_post asked files moment r t w told (NoBody f) read so inside six = absurd so
of_post asked files moment r t w told (NoReply f) read so inside six = absurd so
of_post asked files moment r t w told (NoNzb place reason) read so inside six = absurd so
of_post asked files moment r t w told other read so inside six = absurd (omega (arith, six))

-- ---- whatever the words ask for

pub in_grammar : (words : Words) (files : Option (List (List ℕ × List ℕ))) (moment : ℕ) (r : Reading) (t : Linked) (w : Written) (told : Option (List ℕ)) (end : End) → HasRead end r → EndsSo words files moment r t w told end →
    IsInGrammar words files r.current → status_of end ≡ 6 → Rose r.shorts_before r.shorts_now
in_grammar (Asks (Decode asked)) (Some files) moment r t w told end read so inside six = of_decode asked files r w told end read so inside six
in_grammar (Asks (Check path)) (Some files) moment r t w told end read so inside six = of_check path files r w end read so.0 inside six
in_grammar (Asks (Post asked)) (Some files) moment r t w told end read so inside six = of_post asked files moment r t w told end read so inside six
in_grammar words files moment r t w told end read so inside six = absurd inside
