-- An order's number taken apart is the order. Assumes nothing.
use mathlib.Core.Path.{◌≡◌, refl, sym, ap, subst, ◌∙◌}
use mathlib.Core.Bool.{Bool, true, false, beq}
use mathlib.Core.Option.{Option, some, none, map, some-injective, none-ne-some}
use mathlib.Core.List.{List, [], ◌∷◌}
use Prim.Native.Nat.{ℕ, zero, suc, ◌*◌, ◌/◌, ◌%◌, ◌+◌, ◌-◌, ◌<◌, ◌≤◌}
use native.Mathlib.Omega.{arith}
use borrow.Author.Tests.{ne_eqb, ltb-true, ltb-false, leb-true}
use lib.Dec.{eqb, ltb, leb}
use lib.Ieee.{of_int, binary64}
use lib.IntN.{nat_abs}
use Rattle.refusal.specs.Answer.{Answer, accepted}
use Rattle.refusal.specs.declared.Refusal.{Refusal}
use Rattle.ast.specs.declared.Place.{Place}
use Rattle.ast.specs.declared.Place.TheVariants.{Mem, Stack, Param}
use Rattle.ast.specs.declared.Unary as U
use Rattle.ast.specs.declared.Scratched as S
use Rattle.ast.specs.declared.Binary as Bin
use Rattle.ast.specs.declared.Fused as Fu
use Rattle.ast.specs.Counts.{counts_hold}
use Rattle.ast.specs.Uses.{uses, registers_fit}
use Rattle.ast.specs.declared.Operand.{Operand}
use Rattle.ast.specs.declared.Constant.TheVariants as Constant
use Rattle.ast.specs.declared.Order.{Order}
use Rattle.ast.specs.declared.Order.TheVariants.{Unary, Scratched, Binary, Fused, Ifelse, LoadConst, Load, Save, BranchIf, SetLabel}
use Rattle.base.proofs.Bools.{both}
use Rattle.form.specs.Text.{DeckLine}
use Rattle.form.specs.Text as Text
use Rattle.form.specs.Grammar.{said}
use Rattle.deck.specs.Judge.{Content, head, order, constant, demand, operand_judged, judged, is_head, line_judged}
use Rattle.fast.specs.Inner.Fast.{only_order, order_said}
use Rattle.form.specs.Inner.Names.{unary_number, scratched_number, binary_number, fused_number, unary_at, scratched_at, binary_at, fused_at}
use Rattle.form.proofs.Names.{unary_back, scratched_back, binary_back, fused_back}
use Rattle.std.specs.Prelude as rust
use Rattle.std.specs.Prelude.{Some, None}
use Rattle.text.specs.Readers.{as_option}
use Rattle.fast.specs.Inner.Packed.{place_number, flag_number, place_at, below, pack, order_at, unpacked}

-- ---- by shapes

module _ (q : ℕ) where
  abbrev n : ℕ
  n = q / 16 % 16

  abbrev x : ℕ
  x = q / 256

  pub is_unary : q % 16 ≡ 0 → unpacked q ≡ Unary (unary_at n) (x % 32) (x / 32 % 32)
  unfolding order_at
  is_unary e = rw e

  pub is_scratched : q % 16 ≡ 1 → unpacked q ≡ Scratched (scratched_at n) (x % 32) (x / 32 % 32) (x / 32 / 32 % 32)
  unfolding order_at
  is_scratched e = rw e

  pub is_binary : q % 16 ≡ 2 → unpacked q ≡ Binary (binary_at n) (x % 32) (x / 32 % 32) (x / 32 / 32 % 32)
  unfolding order_at
  is_binary e = rw e

  pub is_fused : q % 16 ≡ 3 → unpacked q ≡ Fused (fused_at n) (x % 32) (x / 32 % 32) (x / 32 / 32 % 32) (x / 32 / 32 / 32 % 32)
  unfolding order_at
  is_fused e = rw e

  pub is_ifelse : q % 16 ≡ 4 → unpacked q ≡ Ifelse (x % 32) (x / 32 % 32) (x / 32 / 32 % 32) (x / 32 / 32 / 32 % 4096)
  unfolding order_at
  is_ifelse e = rw e

  pub is_load : q % 16 ≡ 5 → unpacked q ≡ Load (x % 32) (place_at n) (x / 32 % 4096)
  unfolding order_at
  is_load e = rw e

  pub is_save : q % 16 ≡ 6 → unpacked q ≡ Save (x % 32) (place_at n) (x / 32 % 4096)
  unfolding order_at
  is_save e = rw e

  pub is_load_const : q % 16 ≡ 7 → unpacked q ≡ LoadConst (x % 32) (x / 32 % 4096)
  unfolding order_at
  is_load_const e = rw e

  pub is_branch : q % 16 ≡ 8 → unpacked q ≡ BranchIf (x % 32) (x / 32 % 4096) (eqb n 1)
  unfolding order_at
  is_branch e = rw e

  pub is_label : 9 ≤ q % 16 → unpacked q ≡ SetLabel (x % 4096)
  unfolding order_at
  is_label h =
      let f : (k : ℕ) → k < 9 → eqb (q % 16) k ≡ false = λ k g. ne_eqb (q % 16) k (λ e. omega (arith, h, g, e)) in
      rw (f 0 (omega arith), f 1 (omega arith), f 2 (omega arith), f 3 (omega arith), f 4 (omega arith), f 5 (omega arith), f 6 (omega arith), f 7 (omega arith), f 8 (omega arith))

-- ---- numbers of operations, and back

place_back : (p : Place) → (place_number p < 16) × (place_at (place_number p) ≡ p)
place_back Mem = (omega arith, refl)
place_back Stack = (omega arith, refl)
place_back Param = (omega arith, refl)

flag_back : (e : Bool) → (flag_number e < 16) × (eqb (flag_number e) 1 ≡ e)
flag_back true = (omega arith, refl)
flag_back false = (omega arith, refl)

-- ---- an order with registers below 32 and other numbers below 4,096

abbrev pub Fits : Order → Type 0
Fits (Unary k d s) = (d < 32) × (s < 32)
Fits (Scratched k d s t) = (d < 32) × (s < 32) × (t < 32)
Fits (Binary k d a b) = (d < 32) × (a < 32) × (b < 32)
Fits (Fused k d a b c) = (d < 32) × (a < 32) × (b < 32) × (c < 32)
Fits (Ifelse d a b i) = (d < 32) × (a < 32) × (b < 32) × (i < 4096)
Fits (LoadConst d k) = (d < 32) × (k < 4096)
Fits (Load d p i) = (d < 32) × (i < 4096)
Fits (Save s p i) = (s < 32) × (i < 4096)
Fits (BranchIf c l e) = (c < 32) × (l < 4096)
Fits (SetLabel l) = l < 4096

-- the digits of a number
module _ (k n x : ℕ) (hk : k < 16) (hn : n < 16) where
  abbrev q' : ℕ
  q' = k + 16 * n + 256 * x

  shape_is : q' % 16 ≡ k
  shape_is = omega arith

  operation_is : q' / 16 % 16 ≡ n
  operation_is = omega arith

  operands_are : q' / 256 ≡ x
  operands_are = omega arith

first : (r x : ℕ) → r < 32 → below r x % 32 ≡ r
first r x h = omega arith

rest : (r x : ℕ) → r < 32 → below r x / 32 ≡ x
rest r x h = omega arith

same_index : (i : ℕ) → i < 4096 → i % 4096 ≡ i
same_index i h = omega arith

same_register : (r : ℕ) → r < 32 → r % 32 ≡ r
same_register r h = omega arith

pub unpack_pack : (o : Order) → Fits o → unpacked (pack o) ≡ o
unfolding pack
unpack_pack (Unary k d s) h =
    is_unary (pack (Unary k d s)) (shape_is 0 (unary_number k) (below d s) (omega arith) (unary_back k).0)
    ∙ rw (operation_is 0 (unary_number k) (below d s) (omega arith) (unary_back k).0, operands_are 0 (unary_number k) (below d s) (omega arith) (unary_back k).0, first d s h.0, rest d s h.0, same_register s h.1, (unary_back k).1)
unpack_pack (Scratched k d s t) h =
    is_scratched (pack (Scratched k d s t)) (shape_is 1 (scratched_number k) (below d (below s t)) (omega arith) (scratched_back k).0)
    ∙ rw (operation_is 1 (scratched_number k) (below d (below s t)) (omega arith) (scratched_back k).0, operands_are 1 (scratched_number k) (below d (below s t)) (omega arith) (scratched_back k).0, first d (below s t) h.0, rest d (below s t) h.0, first s t h.1, rest s t h.1, same_register t h.2, (scratched_back k).1)
unpack_pack (Binary k d a b) h =
    is_binary (pack (Binary k d a b)) (shape_is 2 (binary_number k) (below d (below a b)) (omega arith) (binary_back k).0)
    ∙ rw (operation_is 2 (binary_number k) (below d (below a b)) (omega arith) (binary_back k).0, operands_are 2 (binary_number k) (below d (below a b)) (omega arith) (binary_back k).0, first d (below a b) h.0, rest d (below a b) h.0, first a b h.1, rest a b h.1, same_register b h.2, (binary_back k).1)
unpack_pack (Fused k d a b c) h =
    let x = below d (below a (below b c)) in
    let f = fused_back k in
    is_fused (pack (Fused k d a b c)) (shape_is 3 (fused_number k) x (omega arith) f.0)
    ∙ rw (operation_is 3 (fused_number k) x (omega arith) f.0, operands_are 3 (fused_number k) x (omega arith) f.0, first d (below a (below b c)) h.0, rest d (below a (below b c)) h.0, first a (below b c) h.1, rest a (below b c) h.1, first b c h.2, rest b c h.2, same_register c h.3, f.1)
unpack_pack (Ifelse d a b i) h =
    is_ifelse (pack (Ifelse d a b i)) (shape_is 4 0 (below d (below a (below b i))) (omega arith) (omega arith))
    ∙ rw (operands_are 4 0 (below d (below a (below b i))) (omega arith) (omega arith), first d (below a (below b i)) h.0, rest d (below a (below b i)) h.0, first a (below b i) h.1, rest a (below b i) h.1, first b i h.2, rest b i h.2, same_index i h.3)
unpack_pack (Load d p i) h =
    is_load (pack (Load d p i)) (shape_is 5 (place_number p) (below d i) (omega arith) (place_back p).0)
    ∙ rw (operation_is 5 (place_number p) (below d i) (omega arith) (place_back p).0, operands_are 5 (place_number p) (below d i) (omega arith) (place_back p).0, first d i h.0, rest d i h.0, same_index i h.1, (place_back p).1)
unpack_pack (Save s p i) h =
    is_save (pack (Save s p i)) (shape_is 6 (place_number p) (below s i) (omega arith) (place_back p).0)
    ∙ rw (operation_is 6 (place_number p) (below s i) (omega arith) (place_back p).0, operands_are 6 (place_number p) (below s i) (omega arith) (place_back p).0, first s i h.0, rest s i h.0, same_index i h.1, (place_back p).1)
unpack_pack (LoadConst d k) h =
    is_load_const (pack (LoadConst d k)) (shape_is 7 0 (below d k) (omega arith) (omega arith))
    ∙ rw (operands_are 7 0 (below d k) (omega arith) (omega arith), first d k h.0, rest d k h.0, same_index k h.1)
unpack_pack (BranchIf c l e) h =
    is_branch (pack (BranchIf c l e)) (shape_is 8 (flag_number e) (below c l) (omega arith) (flag_back e).0)
    ∙ rw (operation_is 8 (flag_number e) (below c l) (omega arith) (flag_back e).0, operands_are 8 (flag_number e) (below c l) (omega arith) (flag_back e).0, first c l h.0, rest c l h.0, same_index l h.1, (flag_back e).1)
unpack_pack (SetLabel l) h =
    is_label (pack (SetLabel l)) (omega (arith, shape_is 9 0 l (omega arith) (omega arith)))
    ∙ rw (operands_are 9 0 l (omega arith) (omega arith), same_index l h)

-- ---- what a line says is such an order

-- a demand that was met
met : (t : Bool) (r : Refusal) (a : Answer Content) (o : Order) → only_order (demand t r a) ≡ some o → (t ≡ true) × (only_order a ≡ some o)
met true r a o e = (refl, e)
met false r a o e = absurd (none-ne-some o e)

-- what an operand's demand shows
abbrev Met : Operand → Type 0
Met Operand.Nothing = Unit {0}
Met (Operand.Loaded p i) = i < 4096
Met (Operand.Stored p i) = i < 4096
Met (Operand.Constant k) = k < 4096
Met (Operand.GoneTo l) = l < 4096
Met (Operand.Set l) = l < 4096

operand_met : (x : Operand) (a : Answer Content) (o : Order) → only_order (operand_judged x a) ≡ some o → Met x × (only_order a ≡ some o)
operand_met Operand.Nothing a o e = (tt, e)
operand_met (Operand.Loaded p i) a o e = let m = met (ltb i 4096) Refusal.Count a o e in (ltb-true i 4096 m.0, m.1)
operand_met (Operand.Stored p i) a o e = let m = met (ltb i 4096) Refusal.Count a o e in (ltb-true i 4096 m.0, m.1)
operand_met (Operand.Constant k) a o e = let m = met (ltb k 1008) Refusal.Count a o e in (omega (arith, ltb-true k 1008 m.0), m.1)
operand_met (Operand.GoneTo l) a o e = let m = met (leb l 1023) Refusal.Label a o e in (omega (arith, leb-true l 1023 m.0), m.1)
operand_met (Operand.Set l) a o e = let m = met (leb l 1023) Refusal.Label a o e in (omega (arith, leb-true l 1023 m.0), m.1)

-- registers below 32
one : (a : ℕ) → registers_fit (a ∷ []) ≡ true → a < 32
one a e = ltb-true a 32 (both (ltb a 32) true e).0

two : (a b : ℕ) → registers_fit (a ∷ b ∷ []) ≡ true → (a < 32) × (b < 32)
two a b e = let g = both (ltb a 32) (registers_fit (b ∷ [])) e in (ltb-true a 32 g.0, one b g.1)

three : (a b c : ℕ) → registers_fit (a ∷ b ∷ c ∷ []) ≡ true → (a < 32) × (b < 32) × (c < 32)
three a b c e = let g = both (ltb a 32) (registers_fit (b ∷ c ∷ [])) e in let h = two b c g.1 in (ltb-true a 32 g.0, h.0, h.1)

order_fits : (p : Order) → registers_fit (uses p).registers ≡ true → Met (uses p).operand → Fits p
order_fits (Unary k d s) e m = two d s e
order_fits (Scratched k d s t) e m = three d s t e
order_fits (Binary k d a b) e m = three d a b e
order_fits (Fused k d a b c) e m = let g = both (ltb d 32) (registers_fit (a ∷ b ∷ c ∷ [])) e in let h = three a b c g.1 in (ltb-true d 32 g.0, h.0, h.1, h.2)
order_fits (Ifelse d a b i) e m = let h = three d a b e in (h.0, h.1, h.2, m)
order_fits (LoadConst d k) e m = (one d e, m)
order_fits (Load d p i) e m = (one d e, m)
order_fits (Save s p i) e m = (one s e, m)
order_fits (BranchIf c l b) e m = (one c e, m)
order_fits (SetLabel l) e m = m

line_fits : (l : DeckLine) (o : Order) → only_order (judged l) ≡ some o → Fits o
unfolding judged
line_fits (Text.head H) o e =
    let m = met (ltb H.mask 4294967296) Refusal.Value _ o e in
    absurd (none-ne-some o (met (counts_hold H) Refusal.Count (accepted (head H)) o m.1).1)
line_fits (Text.order p) o e =
    let m = met (registers_fit (uses p).registers) Refusal.Register _ o e in
    let k = operand_met (uses p).operand (accepted (order p)) o m.1 in
    subst Fits (some-injective p o k.1) (order_fits p m.0 k.0)
line_fits (Text.float z) o e = absurd (none-ne-some o (met (leb (nat_abs z) 9007199254740992) Refusal.Value (accepted (constant (Constant.Float (of_int binary64 z)))) o e).1)
line_fits (Text.bits n) o e = absurd (none-ne-some o e)

pub said_fits : (l : List ℕ) (o : Order) → order_said l ≡ some o → Fits o
unfolding line_judged
said_fits l o e = by (said l) e
  where
    by : (x : Option DeckLine) → only_order (line_judged false x) ≡ some o → Fits o
    by none e = absurd (none-ne-some o e)
    by (some m) e = line_fits m o (met (beq (is_head m) false) Refusal.Line (judged m) o e).1

-- the number of a line: that of the order that it says, or none
module _ (l : List ℕ) (q : rust.Option ℕ) (e : q ≡ as_option (map pack (order_said l))) where
  pub unsaid : q ≡ None → order_said l ≡ none
  unsaid h = go (order_said l) refl (sym e ∙ h)
    where
      go : (o : Option Order) → order_said l ≡ o → as_option (map pack o) ≡ None → o ≡ none
      go none g f = refl
      go (some o) g f = absurd (let z : ◌≡◌ {A = ℕ} 0 1 = cc in omega arith)

  pub says_order : (x : ℕ) → q ≡ Some x → order_said l ≡ some (unpacked x)
  says_order x h = go (order_said l) refl (sym e ∙ h)
    where
      go : (o : Option Order) → order_said l ≡ o → as_option (map pack o) ≡ Some x → o ≡ some (unpacked x)
      go none g f = absurd (let z : ◌≡◌ {A = ℕ} 0 1 = cc in omega arith)
      go (some o) g f = let w : x ≡ pack o = cc in ap some (rw w (sym (unpack_pack o (said_fits l o g))))

-- ---- orders of instructions alone, by their shapes

module _ (P : Order → Type 0) (q : ℕ)
    (unary : (k : U.Unary) (d s : ℕ) → d < 32 → s < 32 → P (Unary k d s))
    (scratched : (k : S.Scratched) (d s t : ℕ) → d < 32 → s < 32 → t < 32 → P (Scratched k d s t))
    (binary : (k : Bin.Binary) (d a b : ℕ) → d < 32 → a < 32 → b < 32 → P (Binary k d a b))
    (fused : (k : Fu.Fused) (d a b c : ℕ) → d < 32 → a < 32 → b < 32 → c < 32 → P (Fused k d a b c)) where
  by_registers : (k : ℕ) → q % 16 ≡ k → k < 4 → P (unpacked q)
  by_registers zero e h = subst P (sym (is_unary q e)) (unary _ _ _ (omega arith) (omega arith))
  by_registers (suc zero) e h = subst P (sym (is_scratched q e)) (scratched _ _ _ _ (omega arith) (omega arith) (omega arith))
  by_registers (suc (suc zero)) e h = subst P (sym (is_binary q e)) (binary _ _ _ _ (omega arith) (omega arith) (omega arith))
  by_registers (suc (suc (suc zero))) e h = subst P (sym (is_fused q e)) (fused _ _ _ _ _ (omega arith) (omega arith) (omega arith) (omega arith))
  by_registers (suc (suc (suc (suc k)))) e h = absurd (omega arith)

  pub registers_order : q % 16 < 4 → P (unpacked q)
  registers_order h = by_registers (q % 16) refl h

  module _
      (ifelse : (d a b i : ℕ) → d < 32 → a < 32 → b < 32 → i < 4096 → P (Ifelse d a b i))
      (load : (d : ℕ) (p : Place) (i : ℕ) → d < 32 → i < 4096 → P (Load d p i))
      (save : (s : ℕ) (p : Place) (i : ℕ) → s < 32 → i < 4096 → P (Save s p i)) where
    by_plain : (k : ℕ) → q % 16 ≡ 4 + k → k < 3 → P (unpacked q)
    by_plain zero e h = subst P (sym (is_ifelse q e)) (ifelse _ _ _ _ (omega arith) (omega arith) (omega arith) (omega arith))
    by_plain (suc zero) e h = subst P (sym (is_load q e)) (load _ _ _ (omega arith) (omega arith))
    by_plain (suc (suc zero)) e h = subst P (sym (is_save q e)) (save _ _ _ (omega arith) (omega arith))
    by_plain (suc (suc (suc k))) e h = absurd (omega arith)

    pub plain_order : q % 16 < 7 → P (unpacked q)
    plain_order h = go (ltb (q % 16) 4) refl
      where
        go : (t : Bool) → ltb (q % 16) 4 ≡ t → P (unpacked q)
        go true e = registers_order (ltb-true (q % 16) 4 e)
        go false e = let g = ltb-false (q % 16) 4 e in by_plain (q % 16 - 4) (omega arith) (omega arith)
