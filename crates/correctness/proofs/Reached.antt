-- Every jump of an accepted file has its label set: by a line of the file, or by a constant.
use mathlib.Core.Path.{◌≡◌, refl, sym, ap, ◌∙◌}
use mathlib.Core.Bool.{Bool, true, false, not, cond}
use mathlib.Core.List.{List, [], ◌∷◌, ◌++◌}
use mathlib.Core.Option.{Option, some, none}
use Prim.Native.Nat.{ℕ, zero, suc, ◌+◌, ◌≤◌, ◌<◌}
use native.Mathlib.Omega.{arith}
use borrow.Author.Tests.{eq-eqb, ne_eqb}
use lib.Dec.{eqb}
use lib.ListN.{length, get_elem?, replicate, length-append, length-replicate}
use Rattle.base.proofs.Bools.{true_not_false}
use Rattle.ast.specs.declared.Order.{Order}
use Rattle.ast.specs.declared.Order.TheVariants.{SetLabel}
use Rattle.assembler.specs.Item.{Item, instr, raw, jump, label}
use Rattle.base.specs.Tests.{member}
use Rattle.assembler.specs.Put.{jumps, targets, labels}
use Rattle.assembler.specs.Resolved.{label_place, jumps_in}
use Rattle.ast.specs.Constant.{constant_label}
use Rattle.assembler.proofs.Items.{jumps_append}
use Rattle.reading.specs.Line.{Line, order, constant}
use Rattle.orders.specs.Code.{code, line_code}
use Rattle.reading.specs.Program.{Program, constants, here_or, label_line}
use Rattle.ast.specs.Uses.{sets}
use Rattle.call.specs.Layout.{span, body, constants_from, entry, exit, code_items, pad, data_items, items}
use Rattle.call.proofs.Items.{Unset}
use Rattle.routine.specs.Routine.{last_line, body_lines, jump_lines, first_line, unset}
use Rattle.routine.proofs.LawRoom.{is_none, place_among}
use Rattle.routine.proofs.LawFit.{padding_jumps}

-- ---- jumps of items

-- the labels of the jumps have P
module _ (P : ℕ → Type 0) where
  abbrev pub Jumping : List Item → Type 0
  Jumping [] = Unit {0}
  Jumping (instr i ∷ xs) = Jumping xs
  Jumping (raw w ∷ xs) = Jumping xs
  Jumping (jump k l r ∷ xs) = P l × Jumping xs
  Jumping (label l ∷ xs) = Jumping xs

  pub jumping_left : (xs ys : List Item) → Jumping (xs ++ ys) → Jumping xs
  jumping_left [] ys j = tt
  jumping_left (instr i ∷ xs) ys j = jumping_left xs ys j
  jumping_left (raw w ∷ xs) ys j = jumping_left xs ys j
  jumping_left (jump k l r ∷ xs) ys j = (j.0, jumping_left xs ys j.1)
  jumping_left (label l ∷ xs) ys j = jumping_left xs ys j

  pub jumping_right : (xs ys : List Item) → Jumping (xs ++ ys) → Jumping ys
  jumping_right [] ys j = j
  jumping_right (instr i ∷ xs) ys j = jumping_right xs ys j
  jumping_right (raw w ∷ xs) ys j = jumping_right xs ys j
  jumping_right (jump k l r ∷ xs) ys j = jumping_right xs ys j.1
  jumping_right (label l ∷ xs) ys j = jumping_right xs ys j

  -- those of an order
  pub jumping_line : (ls : List Line) (n : ℕ) (o : Order) → get_elem? ls n ≡ some (order o) → Jumping (body ls) → Jumping (code o)
  unfolding body line_code
  jumping_line [] n o e j = let z : ◌≡◌ {A = ℕ} 0 1 = cc in absurd (omega arith)
  jumping_line (order q ∷ ls) zero o e j = let z : q ≡ o = cc in rw (← z) (jumping_left (code q) (body ls) j)
  jumping_line (constant c ∷ ls) zero o e j = let z : ◌≡◌ {A = ℕ} 0 1 = cc in absurd (omega arith)
  jumping_line (k ∷ ls) (suc n) o e j = jumping_line ls n o e (jumping_right (line_code k) (body ls) j)

-- the items `all` set label l
abbrev pub Placed : List Item → ℕ → Type 0
Placed all l = label_place l 0 all ≡ none → ⊥

reached : (all : List Item) (h : ℕ) (xs : List Item) (ns : List ℕ) → jumps xs ≤ length ns → first_line (unset all) (jumps_in h xs) ns ≡ none → Jumping (Placed all) xs
unfolding jumps targets jumps_in first_line
reached all h [] ns m e = tt
reached all h (instr i ∷ xs) ns m e = reached all (h + 4) xs ns m e
reached all h (raw w ∷ xs) ns m e = reached all (h + 4) xs ns m e
reached all h (label l ∷ xs) ns m e = reached all h xs ns m e
reached all h (jump k l r ∷ xs) [] m e = absurd (omega arith)
reached all h (jump k l r ∷ xs) (n ∷ ns) m e = by (member l (labels all)) refl e (reached all (h + 4) xs ns (omega arith))
  where
    by : (t : Bool) → member l (labels all) ≡ t → cond (not t) (some n) (first_line (unset all) (jumps_in (h + 4) xs) ns) ≡ none → (first_line (unset all) (jumps_in (h + 4) xs) ns ≡ none → Jumping (Placed all) xs) → Placed all l × Jumping (Placed all) xs
    by false q e f = let z : ◌≡◌ {A = ℕ} 0 1 = cc in absurd (omega arith)
    by true q e f = (λ z. true_not_false (sym (ap (λ (o : Option ℕ). not (is_none o)) z) ∙ (place_among l 0 all ∙ q)), f e)

-- ---- each jump has a line

body_counted : (n : ℕ) (ls : List Line) → length (body_lines n ls) ≡ jumps (body ls)
unfolding body_lines body jumps targets
body_counted n [] = refl
body_counted n (l ∷ ls) =
    length-append (replicate (jumps (line_code l)) n) (body_lines (suc n) ls)
    ∙ rw (length-replicate (jumps (line_code l)) n, body_counted (suc n) ls, jumps_append (line_code l) (body ls))

no_jumps : (k : ℕ) (bs : List ℕ) → jumps (constants_from k bs) ≡ 0
unfolding constants_from jumps targets
no_jumps k [] = refl
no_jumps k (b ∷ bs) = no_jumps (suc k) bs

counted : (p : Program) → jumps (items p) ≡ length (jump_lines p)
unfolding items
counted p =
    rw (jumps_append (code_items p) (data_items p), jumps_append (entry p) (body p.lines ++ exit p), jumps_append (body p.lines) (exit p), jumps_append (pad p) (constants_from 0 (constants p.lines)), padding_jumps (span (code_items p)) (length (constants p.lines)), no_jumps 0 (constants p.lines))
    (omega (arith, length-append (replicate (jumps (entry p)) 1) (body_lines 2 p.lines ++ replicate (jumps (exit p)) (last_line p)), length-append (body_lines 2 p.lines) (replicate (jumps (exit p)) (last_line p)), length-replicate {A = ℕ} (jumps (entry p)) 1, length-replicate (jumps (exit p)) (last_line p), body_counted 2 p.lines))

-- the jumps of the body
pub body_reached : (p : Program) → first_line (unset (items p)) (jumps_in 0 (items p)) (jump_lines p) ≡ none → Jumping (Placed (items p)) (body p.lines)
unfolding items
body_reached p e =
    let j = reached (items p) 0 (items p) (jump_lines p) (omega (arith, counted p)) e in
    jumping_left (Placed (items p)) (body p.lines) (exit p)
    (jumping_right (Placed (items p)) (entry p) (body p.lines ++ exit p)
    (jumping_left (Placed (items p)) (code_items p) (data_items p) j))

-- ---- labels that aren't set

pub unset_none : (l h : ℕ) (xs : List Item) → Unset l xs → label_place l h xs ≡ none
unfolding label_place
unset_none l h [] u = refl
unset_none l h (instr i ∷ xs) u = unset_none l (h + 4) xs u
unset_none l h (raw w ∷ xs) u = unset_none l (h + 4) xs u
unset_none l h (jump k m r ∷ xs) u = unset_none l (h + 4) xs u
unset_none l h (label m ∷ xs) u = rw (ne_eqb m l u.0) (unset_none l h xs u.1)

-- those of constants from number k on
pub constants_unset : (l k : ℕ) (bs : List ℕ) → ((i : ℕ) → i < length bs → constant_label (k + i) ≡ l → ⊥) → Unset l (constants_from k bs)
unfolding constants_from
constants_unset l k [] f = tt
constants_unset l k (b ∷ bs) f = (λ e. f 0 (omega arith) (omega (arith, e)), constants_unset l (suc k) bs (λ i h e. f (suc i) (omega arith) (omega (arith, e))))

-- where no line is found for a label, no line sets it
pub no_line : (l n : ℕ) (ls : List Line) → label_line l n ls ≡ none → (i k : ℕ) → get_elem? ls i ≡ some (order (SetLabel k)) → k ≡ l → ⊥
unfolding label_line
no_line l n [] e i k g q = let z : ◌≡◌ {A = ℕ} 0 1 = cc in omega arith
no_line l n (constant c ∷ ls) e zero k g q = let z : ◌≡◌ {A = ℕ} 0 1 = cc in omega arith
no_line l n (constant c ∷ ls) e (suc i) k g q = no_line l (suc n) ls e i k g q
no_line l n (order o ∷ ls) e zero k g q =
    let z : o ≡ SetLabel k = cc in
    let a : here_or l n (sets (SetLabel k)) (label_line l (suc n) ls) ≡ none = ap (λ (x : Order). here_or l n (sets x) (label_line l (suc n) ls)) (sym z) ∙ e in
    let b : some n ≡ none = rw (eq-eqb k l q) at a in
    let y : ◌≡◌ {A = ℕ} 0 1 = cc in
    omega arith
no_line l n (order o ∷ ls) e (suc i) k g q = no_line l (suc n) ls (further (sets o) e) i k g q
  where
    hit : (b : Bool) → cond b (some n) (label_line l (suc n) ls) ≡ none → label_line l (suc n) ls ≡ none
    hit true e = let z : ◌≡◌ {A = ℕ} 0 1 = cc in absurd (omega arith)
    hit false e = e

    further : (m : Option ℕ) → here_or l n m (label_line l (suc n) ls) ≡ none → label_line l (suc n) ls ≡ none
    further none e = e
    further (some m) e = hit (eqb m l) e
