-- What an end of a run says of its status.
use Rattle.std.proofs.Common.{◌≡◌, ◌≢◌, ◌<◌, ℕ, List, Option, Some, None, refl, sym, ap, subst, inl, inr, ◌⊎◌, arith, true}
use Rattle.command_words.specs.CommandLine.{IsRefused, PartAsked, Words}
use Rattle.command_words.specs.CommandLine.Words.{Asks, Refused as AreRefused}
use Rattle.command_words.specs.CommandLine.Command.{Check, Decode, Encode, Post}
use Rattle.command_words.specs.Post.{PostAsked}
use Rattle.input_files.specs.Reading.{Reading, Fits, Exceeds, most_text}
use Rattle.run_ends.specs.Status.{status_of}
use Rattle.run_ends.specs.declared.end.End.{End}
use Rattle.run_ends.specs.declared.end.End.TheVariants.{Done, NotAllPosted, WordsRefused, InputFault, OutputFault, NoLink, Short, Limit as Passes, NoMemory, Refused, Over}
use Rattle.run_ends.specs.declared.end.Limit.{Limit}
use Rattle.run_ends.specs.declared.end.Limit.TheVariants as limits
use Rattle.usebin_cli.specs.Encode.{HasPart, ExceedsLimit}
use Rattle.usebin_cli.specs.Ended.{SaysLine, WritesBehind}
use Rattle.usebin_cli.specs.Linked.{Linked}
use Rattle.usebin_cli.specs.Post.{FitsPost, IsTooLarge}
use Rattle.usebin_cli.specs.Run.{EndsSo, HasEnded, HasParts, IsOverLimit, IsPast, IsStatusOf, FitsWords, Ran, UsesLinks}
use Rattle.usebin_cli.specs.Steps.{Runs, Stops}
use Rattle.usebin_cli.specs.Writing.{Written, IsUntouched, WroteFront, WroteWhole}
use Rattle.usebin_cli.specs.declared.ended.Ended.{Ended}
use Rattle.usebin_cli.proofs.SaidSteps.{between, noted_and_said}

-- ---- what ends have in common

pub input_count : (words : Words) (r : Reading) (w : Written) (told : Option (List ℕ)) (end : End) → HasEnded words r w told end → r.faults_before < r.faults_now → (status_of end ≡ 3) ⊎ (status_of end ≡ 7)
input_count words r w told InputFault x more = inl refl
input_count words r w told NoMemory x more = inr refl
input_count words r w told other x more = absurd (omega (arith, more, x.read.faults))

pub output_count : (words : Words) (r : Reading) (w : Written) (told : Option (List ℕ)) (end : End) → HasEnded words r w told end → w.faults_before < w.faults_now → (status_of end ≡ 4) ⊎ (status_of end ≡ 7)
output_count words r w told OutputFault x more = inl refl
output_count words r w told NoMemory x more = inr refl
output_count words r w told Done x more = absurd (omega (arith, more, x.wrote))
output_count words r w told NotAllPosted x more = absurd (omega (arith, more, x.wrote))
output_count words r w told other x more = absurd (omega (arith, more, x.wrote.faults))

pub short_count : (words : Words) (r : Reading) (w : Written) (told : Option (List ℕ)) (end : End) → HasEnded words r w told end → r.shorts_before < r.shorts_now → (status_of end ≡ 6) ⊎ (status_of end ≡ 7)
short_count words r w told (Short place) x more = inl refl
short_count words r w told NoMemory x more = inr refl
short_count words r w told InputFault x more = absurd (omega (arith, more, x.read.1))
short_count words r w told other x more = absurd (omega (arith, more, x.read.shorts))

pub untouched : (words : Words) (r : Reading) (w : Written) (told : Option (List ℕ)) (end : End) → HasEnded words r w told end → status_of end ≢ 0 → status_of end ≢ 1 → status_of end ≢ 4 → IsUntouched w
untouched words r w told Done x a b c = absurd (a refl)
untouched words r w told NotAllPosted x a b c = absurd (b refl)
untouched words r w told OutputFault x a b c = absurd (c refl)
untouched words r w told other x a b c = x.wrote

-- a command that may leave out a part makes use of links
parts_use_links : (words : Words) → HasParts words → UsesLinks words
parts_use_links (Asks (Post asked)) has = tt
parts_use_links other has = absurd has

pub statuses : (words : Words) (r : Reading) (w : Written) (told : Option (List ℕ)) (end : End) → HasEnded words r w told end → IsStatusOf words (status_of end)
statuses words r w told Done x = inl refl
statuses words r w told NotAllPosted x = inr (inr (inr (inr (inr (inr (parts_use_links words x.may, inl (x.may, refl)))))))
statuses words r w told (WordsRefused number) x = inr (inl refl)
statuses words r w told InputFault x = inr (inr (inl refl))
statuses words r w told OutputFault x = inr (inr (inr (inl refl)))
statuses words r w told NoLink x = inr (inr (inr (inr (inr (inr (x.may, inr (inl refl)))))))
statuses words r w told NoMemory x = inr (inr (inr (inr (inr (inl refl)))))
statuses words r w told (Refused code) x = inr (inr (inr (inr (inr (inr (x.may, inr (inr (inl refl))))))))
statuses words r w told (Over reason) x = inr (inr (inr (inr (inr (inr (x.may, inr (inr (inr refl))))))))
statuses words r w told other x = inr (inr (inr (inr (inl refl))))

-- ---- limits

part_not_over : (asked : PartAsked) (current : Option ℕ) (limit : Limit) → HasPart asked current → ExceedsLimit asked current limit → ⊥
part_not_over asked None limit has over = over
part_not_over asked (Some size) limit has over = absurd cc

text_not_over : (current : Option ℕ) → Fits most_text current → Exceeds most_text current → ⊥
text_not_over None fits over = over
text_not_over (Some len) fits over = omega (arith, fits, over)

file_not_over : (asked : PostAsked) (current : Option ℕ) (limit : Limit) → FitsPost asked current → IsTooLarge asked current limit → ⊥
file_not_over asked None limits.File fits over = over
file_not_over asked None limits.Segments fits over = over
file_not_over asked (Some size) limits.File fits over = omega (arith, fits.0, over)
file_not_over asked (Some size) limits.Segments fits over = omega (arith, fits.1, over.1)
file_not_over asked current other fits over = over

-- what is within the limits goes past none
not_past : (words : Words) (current : Option ℕ) (limit : Limit) → FitsWords words current → IsPast words current limit → ⊥
not_past (Asks (Encode asked)) current limit within past = part_not_over asked current limit within past
not_past (Asks (Decode asked)) current limit within past = text_not_over current within past.0
not_past (Asks (Check path)) current limit within past = text_not_over current within past.0
not_past (Asks (Post asked)) current limit within past = file_not_over asked current limit within past
not_past other current limit within past = past

-- the status of what refuses nothing of the input, and is within the limits
pub over_limit : (words : Words) (r : Reading) (w : Written) (told : Option (List ℕ)) (end : End) → HasEnded words r w told end → IsOverLimit words r.current → status_of end ≡ 6
over_limit words r w told (Passes limit) x over = refl
over_limit words r w told other x over = absurd (not_past words r.current over.0 x.kept over.1)

-- ---- words that are refused

are_refused : (words : Words) (number : ℕ) → words ≡ AreRefused number → IsRefused words
are_refused words number is = rw is tt

pub refused_2 : (words : Words) (r : Reading) (w : Written) (told : Option (List ℕ)) (end : End) → HasEnded words r w told end → status_of end ≡ 2 → IsRefused words
refused_2 words r w told (WordsRefused number) x is = are_refused words number x.may
refused_2 words r w told other x is = absurd (omega (arith, is))

pub refused_words : (words : Words) (files : Option (List (List ℕ × List ℕ))) (moment : ℕ) (r : Reading) (t : Linked) (w : Written) (told : Option (List ℕ)) (end : End) → EndsSo words files moment r t w told end → IsRefused words → status_of end ≡ 2
refused_words (AreRefused number) files moment r t w told end so is = ap status_of so
refused_words (Asks command) files moment r t w told end so is = absurd is

-- ---- in steps

-- a command ended before anything was written or noted
pub stops : (words : Words) (so : Written → Option (List ℕ) → End → Type 0) (r : Reading) (w e : Written) (end : End) → Stops words so r end → IsUntouched w → IsUntouched e → Runs words so r w e (record { end = end; is_told = true })
stops words so r w e end x none silent = record { note = None; noted = (refl, silent); common = (x w none).0; so = (x w none).1 }

-- a command noted a text and then wrote one, whole or not
pub wrote_behind : (words : Words) (so : Written → Option (List ℕ) → End → Type 0) (r : Reading) (w e : Written) (told text : List ℕ) (whole : End) (ended : Ended) → WritesBehind told text whole w e ended →
    (WroteWhole text w → HasEnded words r w (Some told) whole × so w (Some told) whole) → (WroteFront text w → HasEnded words r w (Some told) OutputFault × so w (Some told) OutputFault) → Runs words so r w e ended
wrote_behind words so r w e told text whole ended x at_whole at_front = by x.wrote
  where
    of : (end : End) → ended.end ≡ end → HasEnded words r w (Some told) end × so w (Some told) end → Runs words so r w e ended
    of end is both = record {
      note = Some told;
      noted = x.noted;
      common = subst (λ (other : End). HasEnded words r w (Some told) other) (sym is) both.0;
      so = subst (λ (other : End). so w (Some told) other) (sym is) both.1;
    }

    by : (WroteWhole text w × (ended.end ≡ whole)) ⊎ (WroteFront text w × (ended.end ≡ OutputFault)) → Runs words so r w e ended
    by (inl y) = of whole y.1 (at_whole y.0)
    by (inr y) = of OutputFault y.1 (at_front y.0)

-- a command ended so, and noted nothing
pub nothing_noted : (words : Words) (so : Written → Option (List ℕ) → End → Type 0) (r : Reading) (w e : Written) (end : End) (ended : Ended) → ended.end ≡ end → ended.is_told ≡ true → IsUntouched e →
    HasEnded words r w None end → so w None end → Runs words so r w e ended
nothing_noted words so r w e end ended is told silent common own = record {
  note = None;
  noted = (told, silent);
  common = subst (λ (other : End). HasEnded words r w None other) (sym is) common;
  so = subst (λ (other : End). so w None other) (sym is) own;
}

-- the same run by other words for the same
pub same_words : (words other : Words) (files : Option (List (List ℕ × List ℕ))) (moment : ℕ) (r : Reading) (t : Linked) (w e : Written) (ended : Ended) → words ≡ other → Runs other (EndsSo other files moment r t) r w e ended → Runs words (EndsSo words files moment r t) r w e ended
same_words words other files moment r t w e ended is x = subst (λ (same : Words). Runs same (EndsSo same files moment r t) r w e ended) (sym is) x

-- a command ended, and then its line was said
pub ran : (words : Words) (files : Option (List (List ℕ × List ℕ))) (moment : ℕ) (r : Reading) (t : Linked) (w : Written) (f0 f1 f2 : ℕ) (t0 t1 t2 : Option (List ℕ)) (ended : Ended) →
    Runs words (EndsSo words files moment r t) r w (between f0 f1 t0 t1) ended → SaysLine ended (between f1 f2 t1 t2) → Ran words files moment r t w (between f0 f2 t0 t2) ended.end
ran words files moment r t w f0 f1 f2 t0 t1 t2 ended x says = record {
  note = x.note;
  common = x.common;
  so = x.so;
  said = noted_and_said ended.is_told x.note ended.end f0 f1 f2 t0 t1 t2 x.noted says;
}
