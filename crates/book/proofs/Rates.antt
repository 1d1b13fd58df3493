-- What is used of a book's scale and of its members' rates, in place of what they are.
use Rattle.std.proofs.Common.{◌≡◌, ℕ, ◌<◌, ◌≤◌, List, refl, arith}
use Rattle.book.specs.Limits.{whole_share}
use Rattle.book.specs.Fields.{scale_of}
use Rattle.book.specs.Rates.{rates_at}

pub scale_is : (book : List ℕ) → whole_share ≡ scale_of book
unfolding scale_of
scale_is book = refl

pub scale_positive : (book : List ℕ) → 0 < scale_of book
unfolding scale_of
scale_positive book = omega arith

-- A share is in millionths at the finest.
pub scale_within : (book : List ℕ) → scale_of book ≤ 1000000
unfolding scale_of
scale_within book = omega arith

pub rate_is : (book : List ℕ) (v i : ℕ) → v ≡ rates_at book v i
unfolding rates_at
rate_is book v i = refl

-- A member's rate rises with the room's.
pub rates_rise : (book : List ℕ) (v w i : ℕ) → v ≤ w → rates_at book v i ≤ rates_at book w i
unfolding rates_at
rates_rise book v w i rise = rise

pub ruleset the_scale = (scale_is)
