-- Numbers of a TFM file at a size (tex.web sections 568, 571, 572 and 575; The TeXbook, appendix F).
use Rattle.std.specs.Prelude.{ℕ, ◌+◌, ◌*◌, ◌/◌, ◌^◌, ◌≤◌, ◌==◌, nat_lt, if◌then◌else◌, ℤ, pos, ◌-ℤ◌, ◌<ℤ◌, unsigned_abs}
use Rattle.tfm.specs.declared.quarters.Quarters.{Quarters}
use Rattle.tfm.specs.declared.size.Size.{Size}
use Rattle.tfm.specs.declared.size.Size.TheVariants.{Design, At, Scaled}
use Rattle.tfm.specs.FontMetricsBytes.{word_of}

-- a size that may be asked for: positive and below 2048pt, or 1 to 32768 thousandths
abbrev pub IsSize : Size → Type 0
IsSize Design = Unit {0}
IsSize (At size) = (pos 0 <ℤ size) × (size <ℤ pos (2 ^ 27))
IsSize (Scaled thousandths) = (1 ≤ thousandths) × (thousandths ≤ 32768)

-- a word in units of 1pt/2^20, in sp
abbrev pub points_of : Quarters → ℕ
points_of word = word_of word / 16

-- the size in sp that is asked for, at this design size
abbrev pub asked_size : ℕ → Size → ℕ
asked_size design Design = design
asked_size design (At size) = unsigned_abs size
asked_size design (Scaled thousandths) = design * thousandths / 1000

-- how often a size is halved until it is below 2^23: at most four times, since sizes are below 2^27
abbrev pub halvings : ℕ → ℕ
halvings size =
    if nat_lt size (2 ^ 23) then 0
    else (if nat_lt size (2 ^ 24) then 1 else (if nat_lt size (2 ^ 25) then 2 else (if nat_lt size (2 ^ 26) then 3 else 4)))

-- the halved size
abbrev pub halved : ℕ → ℕ
halved size = size / 2 ^ halvings size

-- sixteen times the halved size, doubled as often as it was halved: what 1 at this size, 2^20 units, is times 16
unfoldable pub sixteenfold : ℕ → ℕ
sixteenfold size = 16 * 2 ^ halvings size * halved size

-- the lower three bytes of a number as a binary fraction of 256 times the halved size; the products are truncated byte by byte
abbrev pub weighed : ℕ → Quarters → ℕ
weighed halved word =
    (word.b3 * halved / 256 + word.b2 * halved) / 256 + word.b1 * halved

-- that fraction of sixteen times the size, which was halved
unfoldable pub fraction_at : ℕ → Quarters → ℕ
fraction_at size word = weighed (halved size) word / (16 / 2 ^ halvings size)

-- a number, in units of the size times 2^-20, in sp: the first byte is its sign, 255 for numbers below 0
unfoldable pub fixword_at : ℕ → Quarters → ℤ
fixword_at size word =
    if word.b0 == 255 then pos (fraction_at size word) -ℤ pos (sixteenfold size) else pos (fraction_at size word)

-- a slant: a signed number in units of 1/2^20, in units of 1/2^16, rounded down
unfoldable pub slant_of : Quarters → ℤ
slant_of word = if nat_lt word.b0 128 then pos (word_of word / 16) else pos (word_of word / 16) -ℤ pos (2 ^ 28)
