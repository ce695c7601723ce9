-- Rows of files in parts, computed.
use Rattle.std.proofs.Common.{◌≡◌, None, Some, refl}
use Rattle.yenc_body.specs.Parts.{part_length, part_place, parts_of}
use Rattle.usebin_cli.specs.Body.{limit_of}
use Rattle.run_ends.specs.declared.end.Limit.TheVariants.{File, Part, Segments}
use Rattle.limits.specs.declared.TheConstants.{MOST_SEGMENTS}

-- ---- parts

pub three_parts : parts_of 27 9 ≡ 3
three_parts = refl

pub last_is_shorter : parts_of 9 8 ≡ 2
last_is_shorter = refl

pub empty_file : parts_of 0 8 ≡ 1
empty_file = refl

pub second_place : part_place 8 2 ≡ 8
second_place = refl

pub second_length : part_length 9 8 2 ≡ 1
second_length = refl

-- ---- limits

pub there : limit_of 9 3 27 ≡ None
there = refl

pub no_such_part : limit_of 9 4 27 ≡ Some (Part 3)
no_such_part = refl

pub as_many_parts_as_there_may_be : limit_of 1 MOST_SEGMENTS MOST_SEGMENTS ≡ None
as_many_parts_as_there_may_be = refl

-- too many parts are named before the part that isn't there, and too many bytes before both
pub too_many_parts : limit_of 1 262146 262145 ≡ Some Segments
too_many_parts = refl

pub too_many_bytes : limit_of 1 262146 1099511627777 ≡ Some File
too_many_bytes = refl
