-- Facts about the files before and after some calls, where they are told.
use Rattle.std.proofs.Common.{Option, Some, None, IfSome}
use Rattle.io_traits.specs.Store.{Shelf, WhereTold}

-- what two calls leave, one after the other
pub told_then : (P Q R : Shelf → Shelf → Type 0) → ((old mid new : Shelf) → P old mid → Q mid new → R old new) → (before mid now : Option Shelf) → WhereTold before mid P → WhereTold mid now Q → WhereTold before now R
told_then P Q R both None None None p q = tt
told_then P Q R both None None (Some new) p q = absurd q
told_then P Q R both None (Some mid) now p q = absurd p
told_then P Q R both (Some old) None now p q = absurd p
told_then P Q R both (Some old) (Some mid) None p q = absurd q
told_then P Q R both (Some old) (Some mid) (Some new) p q = both old mid new p q

-- what no call leaves
pub told_same : (P : Shelf → Shelf → Type 0) → ((old : Shelf) → P old old) → (told : Option Shelf) → WhereTold told told P
told_same P all None = tt
told_same P all (Some old) = all old

-- what is true of the files stays true, or becomes another fact
pub told_step : (P Q : Shelf → Type 0) (R : Shelf → Shelf → Type 0) → ((old new : Shelf) → P old → R old new → Q new) → (before now : Option Shelf) → WhereTold before now R → IfSome before P → IfSome now Q
told_step P Q R step None None r p = tt
told_step P Q R step None (Some new) r p = absurd r
told_step P Q R step (Some old) None r p = absurd r
told_step P Q R step (Some old) (Some new) r p = step old new p r
