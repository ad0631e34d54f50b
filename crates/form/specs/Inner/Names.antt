-- Kinds and their names as numbers. A kind's number is its shape (low) and its operation within the shape, two digits of base 16.
use Rattle.std.specs.Prelude.{cond, ◌&&◌, List, [], ◌∷◌, ◌++◌, ℕ, ◌+◌, ◌*◌, ◌/◌, ◌%◌, ◌^◌, eqb, leb, length}
use Rattle.std.proofs.Math.Option.{Option, some, none}
use Rattle.text.specs.Bytes.{joined}
use Rattle.ast.specs.declared.Unary as U
use Rattle.ast.specs.declared.Unary.TheVariants.{Fmov, Recip, Round, Floor, Not}
use Rattle.ast.specs.declared.Scratched as S
use Rattle.ast.specs.declared.Scratched.TheVariants.{Sign, Frac}
use Rattle.ast.specs.declared.Binary as B
use Rattle.ast.specs.declared.Binary.TheVariants.{Minus, Times, Divide, Gt, Neq, And, Andnot, Or, Xor}
use Rattle.ast.specs.declared.Fused as F
use Rattle.ast.specs.declared.Fused.TheVariants.{MulAdd, MulSub, NegMulAdd, NegMulSub}
use Rattle.ast.specs.declared.Frame.{Frame}
use Rattle.ast.specs.declared.Frame.TheVariants.{Fast, Indirect}
use Rattle.form.specs.Inner.Syntax.{names}
use Rattle.form.specs.declared.Kind.{Kind}

-- ---- operations within a shape

abbrev pub unary_number : U.Unary → ℕ
unary_number Fmov = 0
unary_number Recip = 1
unary_number Round = 2
unary_number Floor = 3
unary_number Not = 4

abbrev pub scratched_number : S.Scratched → ℕ
scratched_number Sign = 0
scratched_number Frac = 1

abbrev pub binary_number : B.Binary → ℕ
binary_number Minus = 0
binary_number Times = 1
binary_number Divide = 2
binary_number Gt = 3
binary_number Neq = 4
binary_number And = 5
binary_number Andnot = 6
binary_number Or = 7
binary_number Xor = 8

abbrev pub fused_number : F.Fused → ℕ
fused_number MulAdd = 0
fused_number MulSub = 1
fused_number NegMulAdd = 2
fused_number NegMulSub = 3

abbrev pub frame_number : Frame → ℕ
frame_number Fast = 0
frame_number Indirect = 1

-- ---- and back

abbrev pub unary_at : ℕ → U.Unary
unary_at n = cond (eqb n 0) Fmov (cond (eqb n 1) Recip (cond (eqb n 2) Round (cond (eqb n 3) Floor Not)))

abbrev pub scratched_at : ℕ → S.Scratched
scratched_at n = cond (eqb n 0) Sign Frac

abbrev pub binary_at : ℕ → B.Binary
binary_at n =
    cond (eqb n 0) Minus
    (cond (eqb n 1) Times
    (cond (eqb n 2) Divide
    (cond (eqb n 3) Gt
    (cond (eqb n 4) Neq
    (cond (eqb n 5) And
    (cond (eqb n 6) Andnot
    (cond (eqb n 7) Or Xor)))))))

abbrev pub fused_at : ℕ → F.Fused
fused_at n = cond (eqb n 0) MulAdd (cond (eqb n 1) MulSub (cond (eqb n 2) NegMulAdd NegMulSub))

abbrev pub frame_at : ℕ → Frame
frame_at n = cond (eqb n 0) Fast Indirect

-- ---- kinds

abbrev pub code : (shape operation : ℕ) → ℕ
code shape operation = shape + 16 * operation

-- `get` and `put` have their place, and `branch` its flag, in a field
abbrev pub kind_code : Kind → ℕ
kind_code (Kind.Unary k) = code 0 (unary_number k)
kind_code (Kind.Scratched k) = code 1 (scratched_number k)
kind_code (Kind.Binary k) = code 2 (binary_number k)
kind_code (Kind.Fused k) = code 3 (fused_number k)
kind_code Kind.Ifelse = code 4 0
kind_code Kind.Load = code 5 0
kind_code Kind.Save = code 6 0
kind_code Kind.LoadConst = code 7 0
kind_code Kind.BranchIf = code 8 0
kind_code Kind.SetLabel = code 9 0
kind_code (Kind.Head f) = code 10 (frame_number f)
kind_code Kind.Float = code 11 0
kind_code Kind.Bits = code 12 0

abbrev pub no_kind : ℕ
no_kind = 255

abbrev pub coded : Option Kind → ℕ
coded none = no_kind
coded (some k) = kind_code k

-- and back
unfoldable pub kind_at : (code : ℕ) → Option Kind
kind_at c =
    cond (eqb (c % 16) 0) (some (Kind.Unary (unary_at (c / 16))))
    (cond (eqb (c % 16) 1) (some (Kind.Scratched (scratched_at (c / 16))))
    (cond (eqb (c % 16) 2) (some (Kind.Binary (binary_at (c / 16))))
    (cond (eqb (c % 16) 3) (some (Kind.Fused (fused_at (c / 16))))
    (cond (eqb (c % 16) 4) (some Kind.Ifelse)
    (cond (eqb (c % 16) 5) (some Kind.Load)
    (cond (eqb (c % 16) 6) (some Kind.Save)
    (cond (eqb (c % 16) 7) (some Kind.LoadConst)
    (cond (eqb (c % 16) 8) (some Kind.BranchIf)
    (cond (eqb (c % 16) 9) (some Kind.SetLabel)
    (cond (eqb (c % 16) 10) (some (Kind.Head (frame_at (c / 16))))
    (cond (eqb (c % 16) 11) (some Kind.Float)
    (cond (eqb (c % 16) 12) (some Kind.Bits) none))))))))))))

-- ---- names of up to six bytes, in a table

-- a name and its comma as one number
abbrev pub name_word : List ℕ → ℕ
name_word s = joined (s ++ (44 ∷ []))

-- where it stands, by its first four bytes
abbrev pub name_place : (word : ℕ) → ℕ
name_place w = w % 2 ^ 32 * 0x1c7b21 / 2 ^ 32 % 32

-- the short name of a place
abbrev pub row_in : List (List ℕ × Kind) → (place : ℕ) → Option (List ℕ × Kind)
row_in [] p = none
row_in (r ∷ rs) p = cond (leb (length r.0) 6 && eqb (name_place (name_word r.0)) p) (some r) (row_in rs p)

abbrev pub row_at : (place : ℕ) → Option (List ℕ × Kind)
row_at p = row_in names p

-- the name and its comma, and the kind's number in the eighth byte; 0 where no name is
abbrev pub entry : Option (List ℕ × Kind) → ℕ
entry none = 0
entry (some r) = name_word r.0 + 2 ^ 56 * kind_code r.1

-- the kind's number of an entry, if the entry is this word's
abbrev pub code_in : (entry word : ℕ) → ℕ
code_in y w = cond (eqb (y % 2 ^ 56) w) (y / 2 ^ 56) no_kind

abbrev pub code_at : (word : ℕ) → ℕ
code_at w = code_in (entry (row_at (name_place w))) w
