-- What a caller reads off a result: where a sum, a multiple or a quotient is exact.
use Rattle.std.proofs.Common.{◌≡◌, ℕ, ◌%◌, ◌<◌, ◌∙◌, mod-eq_of_lt}

-- Results are exact modulo 2^192, the quotients of products modulo 2^64. Where the exact result is below that, the
-- modulo vanishes. For `wrapping_add` the exact result is `a + b`, for `wrapping_mul` `a * k`,
-- for `product_quotient` `f * k / d`, and for `products_quotient` `(a * b + c * d) / e`.
pub exact : {r whole top : ℕ} → r ≡ whole % top → whole < top → r ≡ whole
exact e h = e ∙ mod-eq_of_lt h
