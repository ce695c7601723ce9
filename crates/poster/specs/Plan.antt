-- The plan of a file: its parts, and the message-id of each part's article.
use Rattle.std.specs.Prelude.{◌≡◌, ◌≢◌, ℕ, ◌+◌, ◌<◌, ◌≤◌, List, length, map, Result, Ok, Err}
use Rattle.std.specs.List.{concat}
use Rattle.article_head.specs.PartId.{part_id_text}
use Rattle.yenc_body.specs.Parts.{most_bytes, most_parts, part_bytes, part_length, part_numbers, part_place, parts_of}
use Rattle.poster.specs.Settings.{AreSettings}
use Rattle.poster.specs.declared.parts.Plan.{Plan}
use Rattle.poster.specs.declared.parts.PlanError.{PlanError}
use Rattle.poster.specs.declared.parts.PlanError.TheVariants.{Memory, TooManyParts}
use Rattle.poster.specs.declared.parts.PlanPart.{PlanPart}
use Rattle.poster.specs.declared.settings.Settings.{Settings}

-- the message-id of a part's article
abbrev pub id_of : Settings → (size part : ℕ) → List ℕ
id_of s size part = part_id_text s.token s.domain part (parts_of size s.part_size)

-- a part of a file of this many bytes, counted from 1
abbrev pub planned_part : Settings → (size part : ℕ) → PlanPart
planned_part s size part = record {
  first = part_place s.part_size part + 1;
  len = part_length size s.part_size part;
  id = id_of s size part;
}

-- all its parts, in order
abbrev pub planned_parts : Settings → ℕ → List PlanPart
planned_parts s size = map (planned_part s size) (part_numbers size s.part_size)

-- the plan of a file of this many bytes, which is within the limits
pub record IsPlanOf (s : Settings) (size : ℕ) (p : Plan) : Type 0 where
  pub size_is : p.size ≡ size
  pub parts_are : p.parts ≡ planned_parts s size
  pub few_bytes : size ≤ most_bytes
  pub few_parts : parts_of size s.part_size ≤ most_parts

-- what is answered where a plan is asked for
abbrev pub PlanEnds : Settings → ℕ → Result Plan PlanError → Type 0
PlanEnds s size (Ok p) = IsPlanOf s size p
PlanEnds s size (Err Memory) = parts_of size s.part_size ≤ most_parts
PlanEnds s size (Err (TooManyParts parts)) = (parts ≡ parts_of size s.part_size) × (most_parts < parts)

-- ---- laws

-- two parts of a file have two message-ids
abbrev pub IdsDiffer : Type 0
IdsDiffer = (s : Settings) (size part other : ℕ) → parts_of size s.part_size ≤ most_parts →
    part ≤ parts_of size s.part_size → other ≤ parts_of size s.part_size → part ≢ other → id_of s size part ≢ id_of s size other

-- an offset of a file, counted from 1, is one of a part's bytes
abbrev pub IsOffsetOf : PlanPart → ℕ → Type 0
IsOffsetOf part offset = (part.first ≤ offset) × (offset < part.first + part.len)

-- a number of a part of a file
abbrev pub IsPartNumber : (size part_size part : ℕ) → Type 0
IsPartNumber size part_size part = (1 ≤ part) × (part ≤ parts_of size part_size)

-- each offset of a file stands in one part, and in no other
abbrev pub PartsHoldEachOffset : Type 0
PartsHoldEachOffset = (s : Settings) (size offset : ℕ) → AreSettings s → 1 ≤ offset → offset ≤ size →
    (part : ℕ) × IsPartNumber size s.part_size part × IsOffsetOf (planned_part s size part) offset
    × ((other : ℕ) → IsPartNumber size s.part_size other → IsOffsetOf (planned_part s size other) offset → other ≡ part)

-- the bytes of the parts, one after the other, are the file
abbrev pub PartsAreTheFile : Type 0
PartsAreTheFile = (file : List ℕ) (part_size : ℕ) → 1 ≤ part_size →
    concat (map (part_bytes file part_size) (part_numbers (length file) part_size)) ≡ file
