-- A sum of fewer than sixteen terms, each below 2^96, has room for one more.
use Rattle.std.proofs.Common.{◌^◌, ◌≤◌, arith}
use native.Mathlib.Nat.{mul-le-mul, mul-le-mul_right}
use Rattle.verdict.proofs.weighted.column_sum.Goals as goal

pub overflow_add-sum : goal.overflow_add-sum
overflow_add-sum c =
    let few : c.loop-i.i ≤ 15 = omega arith in
    let cap : c.args.cap ≤ 2 ^ 64 = omega arith in
    let number : c.from-in-loop-i.result ≤ 2 ^ 32 = omega arith in
    let raised : c.from.result ≤ 2 ^ 64 = omega arith in
    record { fits = omega (arith, mul-le-mul few cap, mul-le-mul raised number) }

pub returns-clause-small : goal.returns-clause-small
returns-clause-small c =
    let few : c.loop-i.i ≤ 16 = omega arith in
    omega (arith, mul-le-mul_right c.args.cap few)
