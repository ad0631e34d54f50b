-- A base instruction as the code has it: an operation's number is its place in the list of its shape, the first where it is beyond.
use Rattle.std.specs.Prelude.{get_or}
use Rattle.isa.specs.Instr.{Instr, R, F, C, M, R4, I, Shift, S, B, U, J, ADD, FADD_D, FSQRT_D, FMV_X_D, FMADD_D, ADDI, SLLI, SD, BEQ, LUI, JAL}
use Rattle.isa.specs.Decode.{r_ops, f_ops, c_ops, m_ops, r4_ops, i_ops, shift_ops, s_ops, b_ops, u_ops}
use Rattle.encoder.specs.declared.Instr as Declared
use Rattle.encoder.specs.declared.Instr.TheVariants as Code

abbrev pub instr_of : Declared.Instr → Instr
instr_of (Code.R k d a b) = R (get_or r_ops k ADD) d a b
instr_of (Code.F k d a b m) = F (get_or f_ops k FADD_D) d a b m
instr_of (Code.C k d a m) = C (get_or c_ops k FSQRT_D) d a m
instr_of (Code.M k d a) = M (get_or m_ops k FMV_X_D) d a
instr_of (Code.R4 k d a b c m) = R4 (get_or r4_ops k FMADD_D) d a b c m
instr_of (Code.I k d a z) = I (get_or i_ops k ADDI) d a z
instr_of (Code.Shift k d a z) = Shift (get_or shift_ops k SLLI) d a z
instr_of (Code.S k a b z) = S (get_or s_ops k SD) a b z
instr_of (Code.B k a b z) = B (get_or b_ops k BEQ) a b z
instr_of (Code.U k d z) = U (get_or u_ops k LUI) d z
instr_of (Code.J d z) = J JAL d z
