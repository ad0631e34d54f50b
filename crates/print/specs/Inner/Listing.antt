-- How the code makes the listing's text: names in one table, operands as numbers.
use Rattle.std.specs.Prelude.{cond, List, [], ◌∷◌, ◌++◌, ◌≡◌, ℕ, ◌-◌, ◌*◌, ◌^◌, ◌≤◌, ltb, length, get_or, take, drop}
use Rattle.text.specs.Ascii.{bytes}
use Rattle.text.specs.Digits.{decimal}
use Rattle.print.specs.declared.listing.Operands.{Operands}

-- ---- the table of names, in the order of the table of base words, eight bytes each

abbrev pub names : List ℕ
names =
    bytes "add     sub     sll     xor     srl     sra     or      and     fsgnj.d fsgnjn.dfsgnjx.dfmin.d  "
    ++ (bytes "fmax.d  fle.d   flt.d   feq.d   fadd.d  fsub.d  fmul.d  fdiv.d  fsqrt.d fcvt.w.dfcvt.l.dfcvt.d.w"
    ++ (bytes "fcvt.d.lfmv.x.d fmv.d.x fmadd.d fmsub.d fnmsub.dfnmadd.daddi    xori    ori     andi    jalr    "
    ++ (bytes "ld      fld     addiw   slli    srli    srai    sd      fsd     beq     bne     blt     bge     "
    ++ bytes "bltu    bgeu    lui     auipc   jal     ")))

abbrev pub lengths : List ℕ
lengths =
    3 ∷ 3 ∷ 3 ∷ 3 ∷ 3 ∷ 3 ∷ 2 ∷ 3 ∷ 7 ∷ 8 ∷ 8 ∷ 6 ∷ 6 ∷ 5 ∷ 5 ∷ 5 ∷
    6 ∷ 6 ∷ 6 ∷ 6 ∷ 7 ∷ 8 ∷ 8 ∷ 8 ∷ 8 ∷ 7 ∷ 7 ∷ 7 ∷ 7 ∷ 8 ∷ 8 ∷ 4 ∷
    4 ∷ 3 ∷ 4 ∷ 4 ∷ 2 ∷ 3 ∷ 5 ∷ 4 ∷ 4 ∷ 4 ∷ 2 ∷ 3 ∷ 3 ∷ 3 ∷ 3 ∷ 3 ∷
    4 ∷ 4 ∷ 3 ∷ 5 ∷ 3 ∷ []

unfoldable pub name_at : (row : ℕ) → List ℕ
name_at row = take (get_or lengths row 0) (drop (8 * row) names)

-- ---- operands, up to five: 2^32 more stands for a minus

abbrev pub Sound : Operands → Type 0
Sound s = (s.n ≤ 5) × (length s.values ≡ 5)

unfoldable pub value_text : ℕ → List ℕ
value_text v = cond (ltb v (2 ^ 32)) (decimal v) (45 ∷ decimal (v - 2 ^ 32))

unfoldable pub values_text : List ℕ → List ℕ
values_text [] = []
values_text (v ∷ vs) = 44 ∷ (value_text v ++ values_text vs)
