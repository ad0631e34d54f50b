-- An instruction's word is the word of its operation with no operands, the base word, and its operands at their places. Assumes nothing.
use mathlib.Core.Path.{◌≡◌}
use Prim.Native.Nat.{ℕ, ◌+◌, ◌*◌, ◌/◌, ◌%◌}
use native.Mathlib.Omega.{arith}
use lib.IntN.{ℤ, pos}
use Rattle.isa.specs.Immediate.{twos}
use Rattle.isa.specs.Instr.{R, F, C, M, R4, I, Shift, S, B, U, J, ROp, FOp, COp, MOp, R4Op, IOp, ShiftOp, SOp, BOp, UOp, JOp}
use Rattle.isa.specs.Encode.{join, fields, encode}

pub encode_R : (k : ROp) (d a b : ℕ) → encode (R k d a b) ≡ encode (R k 0 0 0) + d * 128 + a * 32768 + b * 1048576
unfolding encode fields join
encode_R k d a b = omega arith

pub encode_F : (k : FOp) (d a b m : ℕ) → encode (F k d a b m) ≡ encode (F k 0 0 0 0) + d * 128 + m * 4096 + a * 32768 + b * 1048576
unfolding encode fields join
encode_F k d a b m = omega arith

pub encode_C : (k : COp) (d a m : ℕ) → encode (C k d a m) ≡ encode (C k 0 0 0) + d * 128 + m * 4096 + a * 32768
unfolding encode fields join
encode_C k d a m = omega arith

pub encode_M : (k : MOp) (d a : ℕ) → encode (M k d a) ≡ encode (M k 0 0) + d * 128 + a * 32768
unfolding encode fields join
encode_M k d a = omega arith

pub encode_R4 : (k : R4Op) (d a b c m : ℕ) → encode (R4 k d a b c m) ≡ encode (R4 k 0 0 0 0 0) + d * 128 + m * 4096 + a * 32768 + b * 1048576 + c * 4 * 33554432
unfolding encode fields join
encode_R4 k d a b c m = omega arith

pub encode_I : (k : IOp) (d a : ℕ) (z : ℤ) → encode (I k d a z) ≡ encode (I k 0 0 (pos 0)) + d * 128 + a * 32768 + twos 12 z % 32 * 1048576 + twos 12 z / 32 * 33554432
unfolding encode fields join
encode_I k d a z = omega arith

pub encode_Shift : (k : ShiftOp) (d a : ℕ) (z : ℤ) → encode (Shift k d a z) ≡ encode (Shift k 0 0 (pos 0)) + d * 128 + a * 32768 + twos 6 z % 32 * 1048576 + twos 6 z / 32 * 33554432
unfolding encode fields join
encode_Shift k d a z = omega arith

pub encode_S : (k : SOp) (a b : ℕ) (z : ℤ) → encode (S k a b z) ≡ encode (S k 0 0 (pos 0)) + twos 12 z % 32 * 128 + a * 32768 + b * 1048576 + twos 12 z / 32 * 33554432
unfolding encode fields join
encode_S k a b z = omega arith

pub encode_B : (k : BOp) (a b : ℕ) (z : ℤ) → encode (B k a b z) ≡ encode (B k 0 0 (pos 0)) + (twos 13 z / 2 % 16 * 2 + twos 13 z / 2048 % 2) * 128 + a * 32768 + b * 1048576 + (twos 13 z / 4096 * 64 + twos 13 z / 32 % 64) * 33554432
unfolding encode fields join
encode_B k a b z = omega arith

pub encode_U : (k : UOp) (d : ℕ) (z : ℤ) → encode (U k d z) ≡ encode (U k 0 (pos 0)) + d * 128 + twos 20 z % 8 * 4096 + twos 20 z / 8 % 32 * 32768 + twos 20 z / 256 % 32 * 1048576 + twos 20 z / 8192 * 33554432
unfolding encode fields join
encode_U k d z = omega arith

pub encode_J : (k : JOp) (d : ℕ) (z : ℤ) → encode (J k d z) ≡ encode (J k 0 (pos 0)) + d * 128 + twos 21 z / 4096 % 8 * 4096 + twos 21 z / 32768 % 32 * 32768 + (twos 21 z / 2 % 16 * 2 + twos 21 z / 2048 % 2) * 1048576 + (twos 21 z / 1048576 * 64 + twos 21 z / 32 % 64) * 33554432
unfolding encode fields join
encode_J k d z = omega arith
