-- The packed fields of a kind are the number of the order that the line says. Assumes nothing.
use mathlib.Core.Path.{◌≡◌, refl, sym, ap, ◌∙◌}
use mathlib.Core.Bool.{Bool, true, false, cond, not, ◌&&◌, ◌||◌}
use mathlib.Core.Option.{Option, some, none, map}
use mathlib.Core.List.{List, [], ◌∷◌}
use Prim.Native.Nat.{ℕ, suc, ◌*◌, ◌%◌, ◌+◌, ◌^◌, ◌<◌, ◌≤◌}
use native.Mathlib.Omega.{arith}
use borrow.Author.Tests.{lt-ltb, le-ltb, lt-leb, ne_eqb}
use lib.Dec.{ltb, leb}
use lib.Ieee.{of_int, binary64}
use lib.IntN.{nat_abs}
use lib.ListN.{replicate}
use Rattle.base.proofs.Tested.{tested}
use Rattle.refusal.specs.Answer.{Answer, accepted}
use Rattle.refusal.specs.declared.Refusal.{Refusal}
use Rattle.refusal.specs.declared.Refusal.TheVariants.{Register, Count, Label}
use Rattle.text.specs.Readers.{sized}
use Rattle.ast.specs.declared.Unary as U
use Rattle.ast.specs.declared.Scratched as S
use Rattle.ast.specs.declared.Binary as Bin
use Rattle.ast.specs.declared.Fused as Fu
use Rattle.ast.specs.declared.Constant.{Constant}
use Rattle.ast.specs.declared.Order.{Order}
use Rattle.form.specs.Inner.Syntax.{number, place, flag, Values, sorts}
use Rattle.form.specs.Inner.Read.{read_values}
use Rattle.form.specs.Form.{is_negative}
use Rattle.form.specs.Inner.Parts.{shaped, shaped'}
use Rattle.form.specs.declared.Kind.{Kind}
use Rattle.deck.specs.Judge.{Content, demand, order, constant}
use Rattle.deck.specs.Inner.Forms.{below as is_below, value, register, exact, signed, form_judged}
use Rattle.deck.proofs.Forms.{below_sized, value_sized, form_line_judged}
use Rattle.fast.specs.Inner.Fast.{only_order}
use Rattle.fast.specs.Inner.Packed.{place_number, flag_number, below, pack}
use Rattle.form.specs.Inner.Names.{kind_code}
use Rattle.fast.specs.Inner.Fields.{bounded, onto, numeric, registers_of, bound_of, behind, fields_packed}
use Rattle.fast.proofs.Values.{values_packed, read_packed, operands_read, cell_read, cell_values, branch_read, branch_values}

-- the number of the order that an answer is
abbrev told : Answer Content → Option ℕ
told a = map pack (only_order a)

-- a field's value
abbrev its : ℕ → ℕ
its n = value (sized n)

-- ---- numbers below a bound

module _ (n : ℕ) where
  is_register : register (sized n) ≡ ltb n 32
  is_register = below_sized 32 n (omega arith)

  its_value : ltb n 32 ≡ true → value (sized n) ≡ n
  its_value e = value_sized 32 n (omega arith) e

-- ---- the last operand, an index

module _ (f : ℕ → Order) (b : ℕ) (h : b ≤ 2 ^ 64) (why : Refusal) (i : ℕ) where
  said_last : only_order (demand (is_below b (sized i)) why (accepted (order (f (its i))))) ≡ map f (bounded b i)
  said_last = rw (below_sized b i h) (go (ltb i b) refl)
    where
      go : (t : Bool) → ltb i b ≡ t → only_order (demand t why (accepted (order (f (its i))))) ≡ map f (cond t (some i) none)
      go true e = rw (value_sized b i h e)
      go false e = refl

packed_last : (f : ℕ → Order) (c : ℕ) (x : ℕ → ℕ) → ((i : ℕ) → pack (f i) ≡ c + 256 * x i) → (o : Option ℕ) → behind c (map x o) ≡ map pack (map f o)
packed_last f c x p none = refl
packed_last f c x p (some i) = ap some (sym (p i))

module _ (b : ℕ) (h : b ≤ 2 ^ 64) (why : Refusal) (c : ℕ) where
  -- alone
  no_register : (f : ℕ → Order) → ((i : ℕ) → pack (f i) ≡ c + 256 * i) → (i : ℕ) → behind c (bounded b i) ≡ told (demand (is_below b (sized i)) why (accepted (order (f (its i)))))
  no_register f p i = rw (said_last f b h why i) (go (bounded b i))
    where
      go : (o : Option ℕ) → behind c o ≡ map pack (map f o)
      go none = refl
      go (some n) = ap some (sym (p n))

  -- behind one register
  one_register : (f : (d i : ℕ) → Order) → ((d i : ℕ) → pack (f d i) ≡ c + 256 * below d i) → (d i : ℕ) → behind c (onto d (bounded b i)) ≡ told (demand (register (sized d)) Register (demand (is_below b (sized i)) why (accepted (order (f (its d) (its i))))))
  one_register f p d i = rw (is_register d) (go (ltb d 32) refl)
    where
      go : (t : Bool) → ltb d 32 ≡ t → behind c (cond t (map (below d) (bounded b i)) none) ≡ told (demand t Register (demand (is_below b (sized i)) why (accepted (order (f (its d) (its i))))))
      go true e = rw (its_value d e, said_last (f d) b h why i) (packed_last (f d) c (below d) (p d) (bounded b i))
      go false e = refl

  -- behind three
  three_registers : (f : (d s t i : ℕ) → Order) → ((d s t i : ℕ) → pack (f d s t i) ≡ c + 256 * below d (below s (below t i)))
      → (d s t i : ℕ) → behind c (onto d (onto s (onto t (bounded b i)))) ≡ told (demand (register (sized d) && (register (sized s) && register (sized t))) Register (demand (is_below b (sized i)) why (accepted (order (f (its d) (its s) (its t) (its i))))))
  three_registers f p d s t i = rw (is_register d, is_register s, is_register t) (go (ltb d 32) (ltb s 32) (ltb t 32) refl refl refl)
    where
      inner : (o : Option ℕ) → behind c (map (below d) (map (below s) (map (below t) o))) ≡ map pack (map (f d s t) o)
      inner none = refl
      inner (some n) = ap some (sym (p d s t n))

      go : (x y z : Bool) → ltb d 32 ≡ x → ltb s 32 ≡ y → ltb t 32 ≡ z → behind c (cond x (map (below d) (cond y (map (below s) (cond z (map (below t) (bounded b i)) none)) none)) none) ≡ told (demand (x && (y && z)) Register (demand (is_below b (sized i)) why (accepted (order (f (its d) (its s) (its t) (its i))))))
      go true true true ex ey ez = rw (its_value d ex, its_value s ey, its_value t ez, said_last (f d s t) b h why i) (inner (bounded b i))
      go true true false ex ey ez = refl
      go true false z ex ey ez = refl
      go false y z ex ey ez = refl

-- ---- registers alone

two : (c : ℕ) (f : (d s : ℕ) → Order) → ((d s : ℕ) → pack (f d s) ≡ c + 256 * below d s) → (d s : ℕ) → behind c (onto d (bounded 32 s)) ≡ told (demand (register (sized d) && register (sized s)) Register (accepted (order (f (its d) (its s)))))
two c f p d s = rw (is_register d, is_register s) (go (ltb d 32) (ltb s 32) refl refl)
  where
    go : (x y : Bool) → ltb d 32 ≡ x → ltb s 32 ≡ y → behind c (cond x (map (below d) (cond y (some s) none)) none) ≡ told (demand (x && y) Register (accepted (order (f (its d) (its s)))))
    go true true ex ey = rw (its_value d ex, its_value s ey, p d s)
    go true false ex ey = refl
    go false y ex ey = refl

three : (c : ℕ) (f : (d s t : ℕ) → Order) → ((d s t : ℕ) → pack (f d s t) ≡ c + 256 * below d (below s t)) → (d s t : ℕ) → behind c (onto d (onto s (bounded 32 t))) ≡ told (demand (register (sized d) && (register (sized s) && register (sized t))) Register (accepted (order (f (its d) (its s) (its t)))))
three c f p d s t = rw (is_register d, is_register s, is_register t) (go (ltb d 32) (ltb s 32) (ltb t 32) refl refl refl)
  where
    go : (x y z : Bool) → ltb d 32 ≡ x → ltb s 32 ≡ y → ltb t 32 ≡ z → behind c (cond x (map (below d) (cond y (map (below s) (cond z (some t) none)) none)) none) ≡ told (demand (x && (y && z)) Register (accepted (order (f (its d) (its s) (its t)))))
    go true true true ex ey ez = rw (its_value d ex, its_value s ey, its_value t ez, p d s t)
    go true true false ex ey ez = refl
    go true false z ex ey ez = refl
    go false y z ex ey ez = refl

four : (c : ℕ) (f : (d s t v : ℕ) → Order) → ((d s t v : ℕ) → pack (f d s t v) ≡ c + 256 * below d (below s (below t v)))
    → (d s t v : ℕ) → behind c (onto d (onto s (onto t (bounded 32 v)))) ≡ told (demand (register (sized d) && (register (sized s) && (register (sized t) && register (sized v)))) Register (accepted (order (f (its d) (its s) (its t) (its v)))))
four c f p d s t v = rw (is_register d, is_register s, is_register t, is_register v) (go (ltb d 32) (ltb s 32) (ltb t 32) (ltb v 32) refl refl refl refl)
  where
    go : (x y z w : Bool) → ltb d 32 ≡ x → ltb s 32 ≡ y → ltb t 32 ≡ z → ltb v 32 ≡ w → behind c (cond x (map (below d) (cond y (map (below s) (cond z (map (below t) (cond w (some v) none)) none)) none)) none) ≡ told (demand (x && (y && (z && w))) Register (accepted (order (f (its d) (its s) (its t) (its v)))))
    go true true true true ex ey ez ew = rw (its_value d ex, its_value s ey, its_value t ez, its_value v ew, p d s t v)
    go true true true false ex ey ez ew = refl
    go true true false w ex ey ez ew = refl
    go true false z w ex ey ez ew = refl
    go false y z w ex ey ez ew = refl

-- ---- each kind

not_numeric : (k : ℕ) → 9 < k → k < 16 → numeric k ≡ false
not_numeric k g h = go (numeric k) (tested (λ i. leb i 9 || not (numeric i)) 16 k refl h)
  where
    go : (t : Bool) → leb k 9 || not t ≡ true → t ≡ false
    go true e = absurd (let z = rw (lt-leb k 9 g) at e in let y : ◌≡◌ {A = ℕ} 0 1 = cc in omega (arith, y))
    go false e = refl

no_constant : (t : Bool) (a : Constant) → none ≡ told (demand t Refusal.Value (accepted (constant a)))
no_constant true a = refl
no_constant false a = refl

none_float : (o : Option (Values (sorts Kind.Float))) → none ≡ told (form_line_judged false (shaped' Kind.Float o))
unfolding form_line_judged form_judged
none_float none = refl
none_float (some vs) =
    let n = sized (nat_abs vs.0) in
    no_constant (exact n) (Constant.Float (of_int binary64 (signed (is_negative vs.0) (value n))))

module _ (fs : List (List ℕ)) where
  abbrev Says : Kind → Type 0
  Says q = fields_packed (kind_code q) fs ≡ told (form_line_judged false (shaped q fs))

  numbers_at : (c k n b : ℕ) → c % 16 ≡ k → numeric k ≡ true → registers_of k ≡ n → bound_of k ≡ b → b ≤ 10000 → fields_packed c fs ≡ behind c (read_packed n b (read_values (replicate (suc n) number) fs))
  unfolding fields_packed
  numbers_at c k n b e t r q h = rw (e, t, r, q, operands_read n b fs h)

  cell_at : (c : ℕ) → numeric (c % 16) ≡ false → c % 16 < 7 → fields_packed c fs ≡ cell_read c (read_values (number ∷ place ∷ number ∷ []) fs)
  unfolding fields_packed
  cell_at c t h = rw (t, lt-ltb (c % 16) 7 h) (cell_values c fs)

  branch_at : (c : ℕ) → c % 16 ≡ 8 → fields_packed c fs ≡ branch_read c (read_values (number ∷ number ∷ flag ∷ []) fs)
  unfolding fields_packed
  branch_at c e = rw e (branch_values c fs)

  unary : (u : U.Unary) → Says (Kind.Unary u)
  unfolding shaped form_line_judged form_judged pack values_packed
  unary u = numbers_at (kind_code (Kind.Unary u)) 0 1 32 (omega arith) refl refl refl (omega arith) ∙ go (read_values (replicate 2 number) fs)
    where
      go : (o : Option (Values (replicate 2 number))) → behind (kind_code (Kind.Unary u)) (read_packed 1 32 o) ≡ told (form_line_judged false (shaped' (Kind.Unary u) o))
      go none = refl
      go (some vs) = two (kind_code (Kind.Unary u)) (Order.Unary u) (λ d s. refl) vs.0 vs.1.0

  scratched : (u : S.Scratched) → Says (Kind.Scratched u)
  unfolding shaped form_line_judged form_judged pack values_packed
  scratched u = numbers_at (kind_code (Kind.Scratched u)) 1 2 32 (omega arith) refl refl refl (omega arith) ∙ go (read_values (replicate 3 number) fs)
    where
      go : (o : Option (Values (replicate 3 number))) → behind (kind_code (Kind.Scratched u)) (read_packed 2 32 o) ≡ told (form_line_judged false (shaped' (Kind.Scratched u) o))
      go none = refl
      go (some vs) = three (kind_code (Kind.Scratched u)) (Order.Scratched u) (λ d s t. refl) vs.0 vs.1.0 vs.1.1.0

  binary : (u : Bin.Binary) → Says (Kind.Binary u)
  unfolding shaped form_line_judged form_judged pack values_packed
  binary u = numbers_at (kind_code (Kind.Binary u)) 2 2 32 (omega arith) refl refl refl (omega arith) ∙ go (read_values (replicate 3 number) fs)
    where
      go : (o : Option (Values (replicate 3 number))) → behind (kind_code (Kind.Binary u)) (read_packed 2 32 o) ≡ told (form_line_judged false (shaped' (Kind.Binary u) o))
      go none = refl
      go (some vs) = three (kind_code (Kind.Binary u)) (Order.Binary u) (λ d s t. refl) vs.0 vs.1.0 vs.1.1.0

  fused : (u : Fu.Fused) → Says (Kind.Fused u)
  unfolding shaped form_line_judged form_judged pack values_packed
  fused u = numbers_at (kind_code (Kind.Fused u)) 3 3 32 (omega arith) refl refl refl (omega arith) ∙ go (read_values (replicate 4 number) fs)
    where
      go : (o : Option (Values (replicate 4 number))) → behind (kind_code (Kind.Fused u)) (read_packed 3 32 o) ≡ told (form_line_judged false (shaped' (Kind.Fused u) o))
      go none = refl
      go (some vs) = four (kind_code (Kind.Fused u)) (Order.Fused u) (λ d s t v. refl) vs.0 vs.1.0 vs.1.1.0 vs.1.1.1.0

  ifelse : Says Kind.Ifelse
  unfolding shaped form_line_judged form_judged pack values_packed
  ifelse = numbers_at (kind_code Kind.Ifelse) 4 3 4096 (omega arith) refl refl refl (omega arith) ∙ go (read_values (replicate 4 number) fs)
    where
      go : (o : Option (Values (replicate 4 number))) → behind (kind_code Kind.Ifelse) (read_packed 3 4096 o) ≡ told (form_line_judged false (shaped' Kind.Ifelse o))
      go none = refl
      go (some vs) = three_registers 4096 (omega arith) Count (kind_code Kind.Ifelse) Order.Ifelse (λ d s t i. refl) vs.0 vs.1.0 vs.1.1.0 vs.1.1.1.0

  load_const : Says Kind.LoadConst
  unfolding shaped form_line_judged form_judged pack values_packed
  load_const = numbers_at (kind_code Kind.LoadConst) 7 1 1008 (omega arith) refl refl refl (omega arith) ∙ go (read_values (replicate 2 number) fs)
    where
      go : (o : Option (Values (replicate 2 number))) → behind (kind_code Kind.LoadConst) (read_packed 1 1008 o) ≡ told (form_line_judged false (shaped' Kind.LoadConst o))
      go none = refl
      go (some vs) = one_register 1008 (omega arith) Count (kind_code Kind.LoadConst) Order.LoadConst (λ d i. refl) vs.0 vs.1.0

  label : Says Kind.SetLabel
  unfolding shaped form_line_judged form_judged pack values_packed
  label = numbers_at (kind_code Kind.SetLabel) 9 0 1024 (omega arith) refl refl refl (omega arith) ∙ go (read_values (replicate 1 number) fs)
    where
      go : (o : Option (Values (replicate 1 number))) → behind (kind_code Kind.SetLabel) (read_packed 0 1024 o) ≡ told (form_line_judged false (shaped' Kind.SetLabel o))
      go none = refl
      go (some vs) = no_register 1024 (omega arith) Label (kind_code Kind.SetLabel) Order.SetLabel (λ i. refl) vs.0

  load : Says Kind.Load
  unfolding shaped form_line_judged form_judged pack
  load = cell_at (kind_code Kind.Load) refl (omega arith) ∙ go (read_values (number ∷ place ∷ number ∷ []) fs)
    where
      go : (o : Option (Values (number ∷ place ∷ number ∷ []))) → cell_read (kind_code Kind.Load) o ≡ told (form_line_judged false (shaped' Kind.Load o))
      go none = refl
      go (some vs) = one_register 4096 (omega arith) Count (kind_code Kind.Load + 16 * place_number vs.1.0) (λ d i. Order.Load d vs.1.0 i) (λ d i. omega arith) vs.0 vs.1.1.0

  save : Says Kind.Save
  unfolding shaped form_line_judged form_judged pack
  save = cell_at (kind_code Kind.Save) refl (omega arith) ∙ go (read_values (number ∷ place ∷ number ∷ []) fs)
    where
      go : (o : Option (Values (number ∷ place ∷ number ∷ []))) → cell_read (kind_code Kind.Save) o ≡ told (form_line_judged false (shaped' Kind.Save o))
      go none = refl
      go (some vs) = one_register 4096 (omega arith) Count (kind_code Kind.Save + 16 * place_number vs.1.0) (λ d i. Order.Save d vs.1.0 i) (λ d i. omega arith) vs.0 vs.1.1.0

  branch_if : Says Kind.BranchIf
  unfolding shaped form_line_judged form_judged pack
  branch_if = branch_at (kind_code Kind.BranchIf) refl ∙ go (read_values (number ∷ number ∷ flag ∷ []) fs)
    where
      go : (o : Option (Values (number ∷ number ∷ flag ∷ []))) → branch_read (kind_code Kind.BranchIf) o ≡ told (form_line_judged false (shaped' Kind.BranchIf o))
      go none = refl
      go (some vs) = one_register 1024 (omega arith) Label (kind_code Kind.BranchIf + 16 * flag_number vs.1.1.0) (λ d i. Order.BranchIf d i vs.1.1.0) (λ d i. omega arith) vs.0 vs.1.0

  -- no order
  pub nothing : (c : ℕ) → 9 < c % 16 → fields_packed c fs ≡ none
  unfolding fields_packed
  nothing c h = rw (not_numeric (c % 16) h (omega arith), le-ltb (c % 16) 7 (omega arith), ne_eqb (c % 16) 8 (λ e. omega (arith, e, h)))

  none_said : (q : Kind) → 9 < kind_code q % 16 → ((o : Option (Values (sorts q))) → none ≡ told (form_line_judged false (shaped' q o))) → Says q
  unfolding shaped
  none_said q h f = nothing (kind_code q) h ∙ f (read_values (sorts q) fs)

  pub says : (q : Kind) → Says q
  unfolding form_line_judged form_judged
  says (Kind.Unary u) = unary u
  says (Kind.Scratched u) = scratched u
  says (Kind.Binary u) = binary u
  says (Kind.Fused u) = fused u
  says Kind.Ifelse = ifelse
  says Kind.LoadConst = load_const
  says Kind.Load = load
  says Kind.Save = save
  says Kind.BranchIf = branch_if
  says Kind.SetLabel = label
  says (Kind.Head f) = none_said (Kind.Head f) (omega arith) go
    where
      go : (o : Option (Values (sorts (Kind.Head f)))) → none ≡ told (form_line_judged false (shaped' (Kind.Head f) o))
      go none = refl
      go (some vs) = refl
  says Kind.Float = none_said Kind.Float (omega arith) none_float
  says Kind.Bits = none_said Kind.Bits (omega arith) go
    where
      go : (o : Option (Values (sorts Kind.Bits))) → none ≡ told (form_line_judged false (shaped' Kind.Bits o))
      go none = refl
      go (some vs) = refl
