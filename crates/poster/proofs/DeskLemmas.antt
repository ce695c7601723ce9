-- One part read and made.
use Rattle.std.proofs.Common.{◌≡◌, ◌+◌, ◌-◌, ◌≤◌, ℕ, List, length, get_or, Option, Some, None, sym, subst, ap, arith}
use Rattle.std.specs.Prelude.{IfSome, OnSome, IsSomeAnd}
use Rattle.io_traits.specs.declared.blame.Blame.{Blame}
use Rattle.io_traits.specs.declared.blame.Blame.TheVariants.{Open, Read, Create, Keep, Write, SetLen, Send, Receive}
use Rattle.input_files.specs.Reading.{Reading, HasFailed, IsIn, IsPiece, IsReadIn, IsShortAt}
use Rattle.yenc_body.specs.Parts.{part_length, part_place}
use Rattle.yenc_body.proofs.PartLaws.{place_before}
use Rattle.poster.specs.Article.{IsWritten}
use Rattle.poster.specs.Plan.{IsPlanOf, planned_part}
use Rattle.poster.specs.Said.{Made, IsMade}
use Rattle.poster.specs.Settings.{AreSettings}
use Rattle.poster.specs.declared.parts.Plan.{Plan}
use Rattle.poster.specs.declared.parts.PlanPart.{PlanPart}
use Rattle.poster.specs.declared.settings.Settings.{Settings}
use Rattle.poster.proofs.PlanLaws.{count_of_parts, part_read}

-- a part stands in its file
pub record StandsIn (s : Settings) (size part : ℕ) (planned : PlanPart) : Type 0 where
  pub place_is : planned.first ≡ part_place s.part_size part + 1
  pub len_is : planned.len ≡ part_length size s.part_size part
  pub inside : part_place s.part_size part + planned.len ≤ size

pub part_stands : (s : Settings) (p : Plan) (part : ℕ) (parts : List PlanPart) (planned : PlanPart) → AreSettings s → IsPlanOf s p.size p → 1 ≤ part → part ≤ length p.parts → parts ≡ p.parts → planned ≡ get_or parts (part - 1) planned → StandsIn s p.size part planned
part_stands s p part parts planned are plan first last same read =
    let is : planned ≡ planned_part s p.size part = part_read s p part parts planned plan first last same read in
    let before : part_place s.part_size part ≤ p.size - 1 = place_before p.size s.part_size part are.part_size_least first (omega (arith, last, count_of_parts s p plan)) in
    let len : planned.len ≡ part_length p.size s.part_size part = ap (λ (q : PlanPart). q.len) is in
    record { place_is = ap (λ (q : PlanPart). q.first) is; len_is = len; inside = omega (arith, len, before) }

-- a file has a part
pub some_part : (s : Settings) (p : Plan) → IsPlanOf s p.size p → 1 ≤ length p.parts
some_part s p plan = omega (arith, count_of_parts s p plan)

pub is_inside : (current : Option ℕ) (size n : ℕ) → current ≡ Some size → n ≤ size → IsSomeAnd current (λ len. n ≤ len)
is_inside current size n is le = rw is le

-- a read of a part is one of the file
read_inside : (place len size : ℕ) (blame : Option Blame) → place + len ≤ size → IsReadIn place len blame → IsReadIn 0 size blame
read_inside place len size None fits is = tt
read_inside place len size (Some (Read at)) fits is = (omega arith, omega (arith, is.1, fits))
read_inside place len size (Some (Open name)) fits is = absurd is
read_inside place len size (Some (Create file name)) fits is = absurd is
read_inside place len size (Some (Keep file name)) fits is = absurd is
read_inside place len size (Some (Write file at n)) fits is = absurd is
read_inside place len size (Some (SetLen file n)) fits is = absurd is
read_inside place len size (Some (Send link)) fits is = absurd is
read_inside place len size (Some (Receive link)) fits is = absurd is

blame_inside : (place len size : ℕ) (before now : Option (Option Blame)) → place + len ≤ size → OnSome before (IfSome now (IsReadIn place len)) → OnSome before (IfSome now (IsReadIn 0 size))
blame_inside place len size None now fits is = tt
blame_inside place len size (Some before) None fits is = tt
blame_inside place len size (Some before) (Some now) fits is = read_inside place len size now fits is

pub failed_inside : (place len size : ℕ) (r : Reading) → place + len ≤ size → HasFailed (IsReadIn place len) r → HasFailed (IsReadIn 0 size) r
failed_inside place len size r fits f = record { faults = f.faults; shorts = f.shorts; blamed = blame_inside place len size r.blame_before r.blame_now fits f.blamed }

pub short_inside : (place len size at : ℕ) (r : Reading) → place + len ≤ size → IsShortAt at r × IsIn place len at → IsShortAt at r × IsIn 0 size at
short_inside place len size at r fits (short, is) = (short, (omega arith, omega (arith, is.1, fits)))

pub piece_of : (content : Option (List ℕ)) (place : ℕ) (bytes read : List ℕ) → bytes ≡ read → IsPiece content place read → IsPiece content place bytes
piece_of content place bytes read same piece = subst (λ (l : List ℕ). IsPiece content place l) (sym same) piece

-- a part that was read and written is made
pub part_made : (s : Settings) (size : ℕ) (content : Option (List ℕ)) (part place : ℕ) (bytes : List ℕ) (made : Made) → place ≡ part_place s.part_size part → IsPiece content place bytes → length bytes ≡ part_length size s.part_size part →
    IsWritten s size part bytes made.block made.octets → IsMade s size content part made
part_made s size content part place bytes made is piece long w = record {
  bytes = bytes;
  told = subst (λ n. IsPiece content n bytes) is piece;
  length_is = long;
  article = w.article;
  is_article = w.is_article;
  block_is = w.block_is;
  octets_are = w.octets_are;
  octets_most = w.octets_most;
}
