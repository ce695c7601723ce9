-- The definitions of the keyword lines, computed on lines that were written out by hand.
use Rattle.std.proofs.Common.{◌≡◌, Some, None, Ok, Err, codes, refl}
use Rattle.std.specs.Fmt.{digits}
use Rattle.yenc_lines.specs.KeywordText.{begin_text, end_text, part_text}
use Rattle.yenc_lines.specs.Keywords.{begin_of, part_of, end_of}
use Rattle.yenc_lines.specs.declared.key.Key.TheVariants as key
use Rattle.yenc_lines.specs.declared.key.KeyFault.TheVariants.{NotIt, NoItem, BadNumber, Repeated, BadName}
use Rattle.crc_field.specs.Hex.{hex_digits}

-- the header line of a file in one part
pub begin_whole : begin_text (record { part = None; total = None; line = Some 128; size = 9; name = codes "d" }) ≡ codes "=ybegin line=128 size=9 name=d"
unfolding begin_text digits
begin_whole = refl

-- the header line of one part of three
pub begin_part : begin_text (record { part = Some 2; total = Some 3; line = Some 128; size = 27; name = codes "t" }) ≡ codes "=ybegin part=2 total=3 line=128 size=27 name=t"
unfolding begin_text digits
begin_part = refl

-- the trailer line of a file in one part
pub end_whole : end_text (record { size = 9; part = None; pcrc32 = None; crc32 = Some 0xcbf43926 }) ≡ codes "=yend size=9 crc32=cbf43926"
unfolding end_text digits hex_digits
end_whole = refl

-- the trailer line of one part of several
pub end_part : end_text (record { size = 9; part = Some 2; pcrc32 = Some 0xcbf43926; crc32 = None }) ≡ codes "=yend size=9 part=2 pcrc32=cbf43926"
unfolding end_text digits hex_digits
end_part = refl

-- the line of one part
pub part_line : part_text (record { begin = 10; end = 18 }) ≡ codes "=ypart begin=10 end=18"
unfolding part_text digits
part_line = refl

-- ---- lines that are read

-- the header line of one part, whose name has a space
pub begin_read : begin_of (codes "=ybegin part=1 total=1 line=128 size=9 name=my file.txt") ≡ Ok (record { part = Some 1; total = Some 1; line = Some 128; size = 9; name = codes "my file.txt" })
unfolding begin_of
begin_read = refl

-- spaces in a row, a piece that is no item, an unknown key, and spaces round a name
pub begin_read_with_spaces : begin_of (codes "=ybegin line=128  size=9 x y=3 name= my  file.txt ") ≡ Ok (record { part = None; total = None; line = Some 128; size = 9; name = codes "my  file.txt" })
unfolding begin_of
begin_read_with_spaces = refl

-- no name
pub begin_without_name : begin_of (codes "=ybegin line=128 size=9") ≡ Err (NoItem key.Name)
unfolding begin_of
begin_without_name = refl

-- a name of spaces
pub begin_of_empty_name : begin_of (codes "=ybegin size=9 name=  ") ≡ Err BadName
unfolding begin_of
begin_of_empty_name = refl

-- a part is numbered from 1, and the first item that fails is told
pub begin_of_part_0 : begin_of (codes "=ybegin part=0 size=9 size=x name=a") ≡ Err (BadNumber key.Part)
unfolding begin_of
begin_of_part_0 = refl

-- no space behind the word
pub begin_without_space : begin_of (codes "=ybeginx") ≡ Err NotIt
unfolding begin_of
begin_without_space = refl

-- the line of one part
pub part_read : part_of (codes "=ypart begin=10 end=18") ≡ Ok (record { begin = 10; end = 18 })
unfolding part_of
part_read = refl

-- a CRC of one digit
pub end_read : end_of (codes "=yend size=9 crc32=1") ≡ Ok (record { size = 9; part = None; pcrc32 = None; crc32 = Some 1 })
unfolding end_of
end_read = refl

-- digits of both cases
pub end_read_of_part : end_of (codes "=yend size=9 part=1 pcrc32=CBF43926 crc32=cbf43926") ≡ Ok (record { size = 9; part = Some 1; pcrc32 = Some 0xcbf43926; crc32 = Some 0xcbf43926 })
unfolding end_of
end_read_of_part = refl

-- a key that stood before
pub end_of_size_twice : end_of (codes "=yend size=9 size=9") ≡ Err (Repeated key.Size)
unfolding end_of
end_of_size_twice = refl
