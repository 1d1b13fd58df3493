-- A chain book and a job written out as bytes, so that a row can be read beside document 01.
use Rattle.std.specs.Prelude.{ℕ, zero, suc, ◌/◌, ◌%◌, List, [], ◌∷◌, ◌++◌, length, replicate}
use Rattle.exposure.specs.declared.groups.Group.{Group}
use Rattle.exposure.specs.declared.groups.Exposure.{Exposure}

-- n in so many bytes, little-endian.
abbrev pub little_endian : ℕ → ℕ → List ℕ
little_endian zero n = []
little_endian (suc bytes) n = n % 256 ∷ little_endian bytes (n / 256)

-- A member: its half-life, its five numbers and its first feed.
pub record MemberEntry : Type 0 where
  pub half_life : ℕ
  pub coefficients : List ℕ
  pub first : ℕ

-- A feed: its share, the member it comes from, and the feed after it.
pub record FeedEntry : Type 0 where
  pub share : ℕ
  pub from : ℕ
  pub next : ℕ

abbrev pub member : ℕ → List ℕ → ℕ → MemberEntry
member T five first = record { half_life = T; coefficients = five; first = first }

abbrev pub feed : ℕ → ℕ → ℕ → FeedEntry
feed share from next = record { share = share; from = from; next = next }

abbrev pub u32s : List ℕ → List ℕ
u32s [] = []
u32s (n ∷ ns) = little_endian 4 n ++ u32s ns

abbrev pub member_bytes : List MemberEntry → List ℕ
member_bytes [] = []
member_bytes (m ∷ ms) =
    little_endian 8 m.half_life ++ u32s m.coefficients ++ (m.first ∷ 0 ∷ 0 ∷ 0 ∷ []) ++ member_bytes ms

abbrev pub feed_bytes : List FeedEntry → List ℕ
feed_bytes [] = []
feed_bytes (f ∷ fs) = little_endian 4 f.share ++ (f.from ∷ f.next ∷ 0 ∷ 0 ∷ []) ++ feed_bytes fs

abbrev pub book_bytes : ℕ → List MemberEntry → List FeedEntry → List ℕ
book_bytes W ms fs = length ms ∷ length fs ∷ little_endian 2 W ++ replicate 4 0 ++ member_bytes ms ++ feed_bytes fs

abbrev pub group_bytes : Group → List ℕ
group_bytes g =
    little_endian 2 g.days ++ little_endian 2 g.years ++ little_endian 2 g.quarter_hours ++ little_endian 2 g.breathing

-- A job on indoor air read in pCi/L, without uncertainty: its kind, its rate, its target, its value as the bits of an
-- f64, and its exposure.
abbrev pub indoor_job : ℕ → ℕ → ℕ → ℕ → Exposure → List ℕ → List ℕ
indoor_job kind rate target bits exposure book =
    little_endian 4 rate ++ (kind ∷ 0 ∷ 0 ∷ 0 ∷ []) ++ little_endian 4 target ++ little_endian 4 1000000
    ++ little_endian 8 bits ++ little_endian 8 0
    ++ group_bytes exposure.child ++ group_bytes exposure.adult ++ book

abbrev pub risk_job : ℕ → ℕ → ℕ → Exposure → List ℕ → List ℕ
risk_job = indoor_job 0

abbrev pub dose_job : ℕ → ℕ → ℕ → Exposure → List ℕ → List ℕ
dose_job = indoor_job 1
