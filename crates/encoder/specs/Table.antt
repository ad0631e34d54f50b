-- The rows of the table of base words: each operation with no operands.
use Rattle.std.specs.Prelude.{List, ◌++◌, map, ℕ, pos, get_or}
use Rattle.isa.specs.Instr.{Instr, R, F, C, M, R4, I, Shift, S, B, U, J, ADD}
use Rattle.isa.specs.Decode.{r_ops, f_ops, c_ops, m_ops, r4_ops, i_ops, shift_ops, s_ops, b_ops, u_ops, j_ops}

abbrev pub rows : List Instr
rows =
    map (λ k. R k 0 0 0) r_ops
    ++ (map (λ k. F k 0 0 0 0) f_ops
    ++ (map (λ k. C k 0 0 0) c_ops
    ++ (map (λ k. M k 0 0) m_ops
    ++ (map (λ k. R4 k 0 0 0 0 0) r4_ops
    ++ (map (λ k. I k 0 0 (pos 0)) i_ops
    ++ (map (λ k. Shift k 0 0 (pos 0)) shift_ops
    ++ (map (λ k. S k 0 0 (pos 0)) s_ops
    ++ (map (λ k. B k 0 0 (pos 0)) b_ops
    ++ (map (λ k. U k 0 (pos 0)) u_ops
    ++ map (λ k. J k 0 (pos 0)) j_ops)))))))))

abbrev pub row_of : ℕ → Instr
row_of n = get_or rows n (R ADD 0 0 0)

-- the operation with no operands
abbrev pub bare : Instr → Instr
bare (R k d a b) = R k 0 0 0
bare (F k d a b m) = F k 0 0 0 0
bare (C k d a m) = C k 0 0 0
bare (M k d a) = M k 0 0
bare (R4 k d a b c m) = R4 k 0 0 0 0 0
bare (I k d a z) = I k 0 0 (pos 0)
bare (Shift k d a z) = Shift k 0 0 (pos 0)
bare (S k a b z) = S k 0 0 (pos 0)
bare (B k a b z) = B k 0 0 (pos 0)
bare (U k d z) = U k 0 (pos 0)
bare (J k d z) = J k 0 (pos 0)
