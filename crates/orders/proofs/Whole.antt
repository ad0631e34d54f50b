-- An order placed whole: asked for, its instructions written, then the jumps behind them; or refused. Assumes nothing.
use mathlib.Core.Path.{◌≡◌, refl, sym, ap, ap₂, subst, ◌∙◌}
use mathlib.Core.Bool.{Bool, true, false, ◌&&◌, cond}
use mathlib.Core.List.{List, [], ◌∷◌, ◌++◌, map, append-nil}
use mathlib.Core.Option.{Option, some, none}
use Prim.Native.Nat.{ℕ, suc, ◌+◌, ◌*◌, ◌%◌, ◌≤◌, ◌<◌}
use native.Mathlib.Omega.{arith}
use borrow.Author.Tests.{lt-ltb, le-leb, lt-leb, leb-true, leb-false, eq-eqb, ne_eqb, eqb-true, eqb-false}
use lib.Dec.{T, leb, eqb, leb→le}
use lib.ListN.{length, length-append, length-map}
use Rattle.isa.specs.Instr.{Instr}
use Rattle.isa.specs.Encode.{encode}
use Rattle.machine.proofs.Placed.{Valids}
use Rattle.refusal.specs.Answer.{accepted, refused}
use Rattle.refusal.specs.Number.{number_of}
use Rattle.refusal.specs.declared.Refusal.{Refusal}
use Rattle.refusal.specs.declared.Refused.{Refused}
use Rattle.std.specs.Prelude as Opt
use Rattle.std.specs.Prelude.{Result, Err, Some, None}
use Rattle.std.specs.Option.{is_some, option_map}
use Rattle.assembler.proofs.Tests.{number_some}
use Rattle.assembler.specs.Bytes.{room, written}
use Rattle.assembler.specs.Item.{Item, instr, raw, label}
use Rattle.assembler.specs.State.{State, Outcome, state, emit_answer, sound, fits}
use Rattle.assembler.specs.Inner.State.{with_words}
use Rattle.assembler.specs.Put.{targets, twice, numbers_sound, numbers_fit, place, placed, ranked, verdict, put_number, prechecked, put}
use Rattle.assembler.specs.Plan.{fault_number, operand_number, refusal_of, label_fault, jump_fault, tail_items, tail_fault, plan_items, plan_fault, no_words}
use Rattle.assembler.specs.Resolved.{resolved}
use Rattle.assembler.specs.declared.Asm.{Asm}
use Rattle.assembler.specs.declared.Fault.{Fault}
use Rattle.assembler.specs.declared.Tail.{Tail}
use Rattle.assembler.specs.declared.Tail.TheVariants as Tails
use Rattle.assembler.proofs.Checks.{v_good}
use Rattle.assembler.proofs.Items.{placed_append, placed_raw, words_append, targets_append, labels_append, words_raw, targets_raw, labels_raw, targets_instrs, words_tail, labels_tail}
use Rattle.assembler.proofs.Plans.{put_asked, put_same}
use Rattle.assembler.proofs.Steps.{put_done, put_refused, none_refused}
use Rattle.assembler.proofs.Writes.{length_written}
use Rattle.accesses.specs.Fault.{offset_limit}
use Rattle.base.proofs.Bools.{true_not_false, T_true, both, join, passed}
use Rattle.ast.specs.Uses.{uses, index_holds, saves_hold, sets, weighs, registers_fit}
use Rattle.ast.specs.declared.Operand.{Operand}
use Rattle.ast.specs.declared.Operand.TheVariants.{Nothing, Loaded, Stored, Constant, GoneTo, Set}
use Rattle.ast.specs.declared.Head.{Head}
use Rattle.ast.specs.declared.Order.{Order}
use Rattle.ast.specs.declared.Order.TheVariants.{Unary, Scratched, Binary, Fused, Ifelse, LoadConst, Load, Save, BranchIf, SetLabel}
use Rattle.orders.specs.Code.{code}
use Rattle.orders.specs.Emitted.{items, emitted, count_fault, unsaved_fault, fault_in, emitted_in}
use Rattle.orders.specs.Fault.{operand_fault, fault, last_user_label}
use Rattle.orders.specs.Inner.Parts.{instrs, tail_of}
use Rattle.orders.specs.Wrote.{word}
use Rattle.orders.specs.Inner.Wrote.{Puts}
use Rattle.orders.proofs.Wrote.{words_valid}
use Rattle.orders.proofs.Items.{resolve, checked_below}
use Rattle.orders.proofs.Laws.{code_valid, code_length}

-- ---- refusals

-- eight times an index
pub cell_limit : (i : ℕ) → leb i 0xFFFFFFF ≡ leb (8 * i) offset_limit
cell_limit i = by (leb i 0xFFFFFFF) refl
  where
    by : (b : Bool) → leb i 0xFFFFFFF ≡ b → b ≡ leb (8 * i) offset_limit
    by true e = let l : i ≤ 0xFFFFFFF = leb-true i 0xFFFFFFF e in sym (le-leb (8 * i) offset_limit (omega arith))
    by false e = let l : 0xFFFFFFF < i = leb-false i 0xFFFFFFF e in sym (lt-leb (8 * i) offset_limit (omega arith))

-- the operand of an order that is not refused
abbrev pub Small : Operand → Type 0
Small Nothing = Unit {0}
Small (Loaded p i) = 8 * i ≤ offset_limit
Small (Stored p i) = 8 * i ≤ offset_limit
Small (Constant k) = k ≤ 1007
Small (GoneTo l) = l ≤ last_user_label
Small (Set l) = l ≤ last_user_label

within : (n last k : ℕ) → ◌≡◌ {A = ℕ} (cond (leb n last) 0 (suc k)) 0 → n ≤ last
within n last k h = leb→le n last (passed (leb n last) 0 k h).0

small : (x : Operand) → operand_fault x ≡ 0 → Small x
small Nothing h = tt
small (Loaded p i) h = within (8 * i) offset_limit 1 h
small (Stored p i) h = within (8 * i) offset_limit 1 h
small (Constant k) h = within k 1007 8 h
small (GoneTo l) h = within l last_user_label 2 h
small (Set l) h = within l last_user_label 2 h

operands_fit : (o : Order) → fault o ≡ 0 → T (registers_fit (uses o).registers) × (operand_fault (uses o).operand ≡ 0)
unfolding fault
operands_fit o h = passed (registers_fit (uses o).registers) _ _ h

pub order_small : (o : Order) {x : Operand} → fault o ≡ 0 → (uses o).operand ≡ x → Small x
order_small o {x} h e = small x (ap operand_fault (sym e) ∙ (operands_fit o h).1)

const_fits : (d : ℕ) → d < 32 → jump_fault d ≡ 0
const_fits d h = rw (lt-ltb d 32 h)

pub label_fits : (l : ℕ) → l ≤ last_user_label → label_fault l ≡ 0
label_fits l h = rw (lt-ltb l 2039 (omega arith))

-- a label is set whatever the tag
pub put_label : (t u f l : ℕ) (s : State) → put t f (label l ∷ []) s ≡ put u f (label l ∷ []) s
unfolding put placed place
put_label t u f l s = refl

-- ---- the instructions of an order, and what stands behind them

-- a label, or the jumps of a tail
abbrev behind_set : Option ℕ → Tail → List Item
behind_set none t = tail_items t
behind_set (some l) t = label l ∷ []

abbrev pub behind : Order → List Item
behind o = behind_set (sets o) (tail_of o)

pub code_parts : (o : Order) → code o ≡ map instr (instrs o) ++ behind o
unfolding code
code_parts (Unary k d s) = sym (append-nil _)
code_parts (Scratched k d s t) = sym (append-nil _)
code_parts (Binary k d a b) = sym (append-nil _)
code_parts (Fused k d a b c) = refl
code_parts (Ifelse d a b i) = sym (append-nil _)
code_parts (LoadConst d k) = refl
code_parts (Load d p i) = sym (append-nil _)
code_parts (Save s p i) = sym (append-nil _)
code_parts (BranchIf c l e) = refl
code_parts (SetLabel l) = refl

-- where the jumps go
behind_targets : (o : Order) → targets (behind o) ≡ targets (tail_items (tail_of o))
unfolding targets
behind_targets o = grind arith

pub tail_right : (o : Order) → ((l : ℕ) → o ≡ SetLabel l → ⊥) → code o ≡ map instr (instrs o) ++ tail_items (tail_of o)
tail_right o h = code_parts o ∙ ap (λ (js : List Item). map instr (instrs o) ++ js) (by o h)
  where
    by : (o : Order) → ((l : ℕ) → o ≡ SetLabel l → ⊥) → behind o ≡ tail_items (tail_of o)
    by o h = grind arith

tail_targets : (o : Order) → targets (code o) ≡ targets (tail_items (tail_of o))
tail_targets o =
    ap targets (code_parts o) ∙ targets_append (map instr (instrs o)) (behind o)
    ∙ ap (λ (l : List ℕ). l ++ targets (behind o)) (targets_instrs (instrs o))
    ∙ behind_targets o

pub tail_fits : (o : Order) → fault o ≡ 0 → tail_fault (tail_of o) ≡ 0
unfolding fault
tail_fits (Unary k d s) h = refl
tail_fits (Scratched k d s t) h = refl
tail_fits (Binary k d a b) h = refl
tail_fits (Fused k d a b c) h = refl
tail_fits (Ifelse d a b i) h = refl
tail_fits (LoadConst d k) h = let r = checked_below (d ∷ []) k 1007 8 h in rw (lt-ltb d 32 r.0.0)
tail_fits (Load d p i) h = refl
tail_fits (Save s p i) h = refl
tail_fits (BranchIf c l e) h = refl
tail_fits (SetLabel l) h = refl

-- the first of items
module _ (places : ℕ → ℕ) (js : List Item) where
  front_valid : (here : ℕ) (is : List Instr) → Valids (resolve places here (map instr is ++ js)) → Valids is
  unfolding resolve
  front_valid here [] v = tt
  front_valid here (i ∷ is) v = (v.0, front_valid (here + 4) is v.1)

  module _ (k : ℕ) (h : (here : ℕ) → k ≤ length (resolved places here js)) where
    front_length : (here : ℕ) (is : List Instr) → length is + k ≤ length (resolved places here (map instr is ++ js))
    unfolding resolved
    front_length here [] = omega (arith, h here)
    front_length here (i ∷ is) = omega (arith, front_length (here + 4) is)

nowhere : ℕ → ℕ
nowhere l = 0

pub order_valid : (o : Order) → fault o ≡ 0 → Valids (instrs o)
order_valid o z =
    front_valid nowhere (behind o) 0 (instrs o)
    (subst (λ (is : List Item). Valids (resolve nowhere 0 is)) (code_parts o) (code_valid nowhere 0 o z))

light : (s : Option ℕ) → weighs s ≤ 1
light none = omega arith
light (some l) = omega arith

-- an order's instructions and k words behind them
together : (o : Order) (js : List Item) (k : ℕ) → code o ≡ map instr (instrs o) ++ js → ((here : ℕ) → k ≤ length (resolved nowhere here js)) → length (instrs o) + k ≤ 11
together o js k g h =
    let e : length (resolved nowhere 0 (map instr (instrs o) ++ js)) ≤ 11 * weighs (sets o) = rw g at (code_length nowhere 0 o) in
    omega (arith, e, front_length nowhere js k h 0 (instrs o), light (sets o))

pub order_short : (o : Order) → length (instrs o) ≤ 11
order_short o = omega (arith, together o (behind o) 0 (code_parts o) (λ here. omega arith))

tail_length : (t : Tail) (here : ℕ) → length (targets (tail_items t)) ≤ length (resolved nowhere here (tail_items t))
unfolding resolved targets
tail_length Tails.Nothing here = omega arith
tail_length (Tails.One k l r) here = omega arith
tail_length (Tails.Pair k l r) here = omega arith

-- ---- a fault, or none

module _ (f : Opt.Option Refusal) (n : ℕ) (b : Bool) (e : fault_number f ≡ n) (s : b ≡ is_some f) where
  pub fault_some : b ≡ true → n ≡ 0 → ⊥
  fault_some t z = by f (sym s ∙ t) (e ∙ z)
    where
      by : (f : Opt.Option Refusal) → is_some f ≡ true → fault_number f ≡ 0 → ⊥
      by None h q = true_not_false h
      by (Some r) h q = omega (arith, number_some r, q)

  pub fault_none : b ≡ false → n ≡ 0
  fault_none t = sym e ∙ by f (sym s ∙ t)
    where
      by : (f : Opt.Option Refusal) → is_some f ≡ false → fault_number f ≡ 0
      by None h = refl
      by (Some r) h = absurd (true_not_false (sym h))

-- the same of an operand's
some_same : (f : Opt.Option Fault) → is_some f ≡ is_some (option_map refusal_of f)
some_same None = refl
some_same (Some x) = refl

module _ (f : Opt.Option Fault) (n : ℕ) (b : Bool) (e : operand_number f ≡ n) (s : b ≡ is_some f) where
  pub operand_some : b ≡ true → n ≡ 0 → ⊥
  operand_some = fault_some (option_map refusal_of f) n b e (s ∙ some_same f)

  pub operand_none : b ≡ false → n ≡ 0
  operand_none = fault_none (option_map refusal_of f) n b e (s ∙ some_same f)

-- ---- asked for

-- a state that takes w words and jumps to ts is open and sound, and has room
record Takes (ts : List ℕ) (w : ℕ) (s : State) : Type 0 where
  open_still : s.asm.closed ≡ false
  within : s.asm.len ≤ room (length s.buf)
  aligned : s.asm.len % 4 ≡ 0
  room_for : s.asm.len + 4 * w ≤ room (length s.buf)
  jumps_for : s.asm.jumps + length ts ≤ 4096
  known : numbers_sound s.labels ts ≡ true
  numbered : numbers_fit s.labels ts ≡ true

takes : (ts : List ℕ) (w : ℕ) (s : State) → verdict 0 [] ts w s ≡ 0 → Takes ts w s
unfolding ranked sound fits twice
takes ts w s e = by s.asm.closed (numbers_sound s.labels ts && sound (length s.buf) s.asm) (numbers_fit s.labels ts && fits (length s.buf) s.asm w (length ts)) refl refl refl e
  where
    by : (c g f : Bool) → s.asm.closed ≡ c → numbers_sound s.labels ts && sound (length s.buf) s.asm ≡ g → numbers_fit s.labels ts && fits (length s.buf) s.asm w (length ts) ≡ f
        → ◌≡◌ {A = ℕ} (cond c 8 (cond g (cond f 0 7) 2)) 0 → Takes ts w s
    by true g f p q r e = absurd (omega arith)
    by false false f p q r e = absurd (omega arith)
    by false true false p q r e = absurd (omega arith)
    by false true true p q r e =
        let k = both (numbers_sound s.labels ts) _ q in
        let x = both (leb s.asm.len (room (length s.buf))) _ k.1 in
        let y = both (eqb (s.asm.len % 4) 0) _ x.1 in
        let h = both (numbers_fit s.labels ts) _ r in
        let z = both (leb (s.asm.len + 4 * w) (room (length s.buf))) _ h.1 in
        record {
          open_still = p;
          within = leb-true _ _ x.0;
          aligned = eqb-true _ _ y.0;
          room_for = leb-true _ _ z.0;
          jumps_for = leb-true _ _ z.1;
          known = k.0;
          numbered = h.0;
        }

-- n words are asked for in place of w: none where the longest order has room
needed_fits : (size : ℕ) (a : Asm) (n w j : ℕ) → w + j ≤ 11 → n ≡ cond (leb (a.len + 44) (room size)) 0 w → fits size a (n + j) j ≡ fits size a (w + j) j
unfolding fits
needed_fits size a n w j h e = by (leb (a.len + 44) (room size)) refl e
  where
    by : (t : Bool) → leb (a.len + 44) (room size) ≡ t → n ≡ cond t 0 w → leb (a.len + 4 * (n + j)) (room size) && leb (a.jumps + j) 4096 ≡ leb (a.len + 4 * (w + j)) (room size) && leb (a.jumps + j) 4096
    by true l e =
        let m : a.len + 44 ≤ room size = leb-true _ _ l in
        rw (le-leb (a.len + 4 * (n + j)) (room size) (omega (arith, m, e, h)), le-leb (a.len + 4 * (w + j)) (room size) (omega (arith, m, h)))
    by false l e = rw e

-- behind the words it takes the jumps still
rest_taken : (ts ws : List ℕ) (s : State) → Takes ts (length ws + length ts) s → verdict 0 [] ts (length ts) (with_words ws s) ≡ 0
unfolding sound fits twice
rest_taken ts ws s t =
    let w = length ws in
    let j = length ts in
    let n = length s.buf in
    let m : length (written s.buf s.asm.len ws) ≡ n = length_written s.buf s.asm.len ws in
    let b : Asm = record { len = s.asm.len + 4 * w; jumps = s.asm.jumps; closed = s.asm.closed } in
    let g : sound n b ≡ true = rw (le-leb (s.asm.len + 4 * w) (room n) (omega (arith, t.room_for)), eq-eqb ((s.asm.len + 4 * w) % 4) 0 (omega (arith, t.aligned)), le-leb s.asm.jumps 4096 (omega (arith, t.jumps_for))) in
    let f : fits n b j j ≡ true = rw (le-leb (s.asm.len + 4 * w + 4 * j) (room n) (omega (arith, t.room_for)), le-leb (s.asm.jumps + j) 4096 t.jumps_for) in
    rw m (sym (v_good 0 _ _ false _ t.open_still (join _ _ t.known g) refl refl (join _ _ t.numbered f)))

-- ---- words and the jumps of a tail

module _ (ws : List ℕ) (t : Tail) (s : State) where
  whole_number : put_number 0 (map raw ws ++ tail_items t) s ≡ verdict 0 [] (targets (tail_items t)) (length ws + length (targets (tail_items t))) s
  whole_number = rw (words_append, targets_append, labels_append, words_raw, targets_raw, labels_raw, labels_tail, length-append, words_tail)

  tail_number : put_number 0 (tail_items t) s ≡ verdict 0 [] (targets (tail_items t)) (length (targets (tail_items t))) s
  tail_number = rw (labels_tail, words_tail)

module _ (ws : List ℕ) (t : Tail) (tag : ℕ) (s : State) where
  rest_placed : verdict 0 [] (targets (tail_items t)) (length ws + length (targets (tail_items t))) s ≡ 0 → put tag 0 (tail_items t) (with_words ws s) ≡ put tag 0 (map raw ws ++ tail_items t) s
  rest_placed v =
      let u : State = with_words ws s in
      let ts : List ℕ = targets (tail_items t) in
      let n : put_number 0 (tail_items t) u ≡ 0 = tail_number ws t u ∙ rest_taken ts ws s (takes ts _ s v) in
      let e : placed tag (tail_items t) u ≡ placed tag (map raw ws ++ tail_items t) s = sym (placed_append tag (map raw ws) (tail_items t) s ∙ ap (placed tag (tail_items t)) (placed_raw tag ws s)) in
      sym (put_done tag 0 (tail_items t) u (placed tag (map raw ws ++ tail_items t) s) n (sym e))
      ∙ put_done tag 0 (map raw ws ++ tail_items t) s (placed tag (map raw ws ++ tail_items t) s) (whole_number ws t s ∙ v) refl

-- ---- an order

-- the items of an order, without a fault and with one
pub items_all : (o : Order) → fault o ≡ 0 → items o ≡ code o
items_all o z = rw (eq-eqb (fault o) 0 z)

pub items_none : (o : Order) → (fault o ≡ 0 → ⊥) → targets [] ≡ targets (items o)
items_none o z = rw (ne_eqb (fault o) 0 z)

-- the jumps of an order without a fault
pub goes_behind : (o : Order) → fault o ≡ 0 → targets (tail_items (tail_of o)) ≡ targets (items o)
goes_behind o z = sym (ap targets (items_all o z) ∙ tail_targets o)

-- refused for an operand, or for what it may not write
pub order_refused : (o : Order) (tag : ℕ) (s : State) (k n w : ℕ) (ts : List ℕ) (x : Outcome) → k ≡ n → (n ≡ 0 → ⊥) → ts ≡ targets (items o)
    → x ≡ prechecked k [] ts w s → x ≡ put tag n (items o) s
order_refused o tag s k n w ts x e h g q = q ∙ ap (λ (k : ℕ). prechecked k [] ts w s) e ∙ put_asked tag n (items o) [] ts w s h g

module _ (o : Order) (t : Tail) (tag : ℕ) (s : State) (z : fault o ≡ 0) (g : code o ≡ map instr (instrs o) ++ tail_items t) where
  abbrev pub ws : List ℕ
  ws = map encode (instrs o)

  abbrev ts : List ℕ
  ts = targets (tail_items t)

  as_words : put tag 0 (map raw ws ++ tail_items t) s ≡ emitted tag o s
  as_words = put_same (tail_items t) tag 0 (instrs o) s ∙ ap₂ (λ (k : ℕ) (l : List Item). put tag k l s) (sym z) (sym (items_all o z ∙ g))

  -- asked for n words and the jumps: n is the count of instructions, or 0 where any order has room
  module _ (n : ℕ) (en : n ≡ cond (leb (s.asm.len + 44) (room (length s.buf))) 0 (length (instrs o))) where
    number : verdict 0 [] ts (n + length ts) s ≡ put_number 0 (map raw ws ++ tail_items t) s
    number =
        rw (needed_fits (length s.buf) s.asm n (length (instrs o)) (length ts) (together o (tail_items t) _ g (tail_length t)) en, ← length-map (instrs o) encode) (sym (whole_number ws t s))

    pub order_full : (r : Result (Unit {0}) Refused) (e : Refused) → r ≡ Err e → ◌≡◌ {A = Outcome} (record { answer = refused (number_of e.why) e.place; state = s }) (prechecked 0 [] ts (n + length ts) s) → ◌≡◌ {A = Outcome} (record { answer = emit_answer r; state = s }) (emitted tag o s)
    order_full r e i q = put_refused tag 0 (map raw ws ++ tail_items t) s r e _ number i q ∙ as_words

    module _ (q : ◌≡◌ {A = Outcome} (record { answer = accepted tt; state = s }) (prechecked 0 [] ts (n + length ts) s)) where
      zero_number : verdict 0 [] ts (length ws + length ts) s ≡ 0
      zero_number = sym (whole_number ws t s) ∙ sym number ∙ none_refused _ s q

      pub order_room : s.asm.len + 4 * length (instrs o) ≤ room (length s.buf)
      order_room = let k = takes ts (length ws + length ts) s zero_number in omega (arith, k.room_for, length-map (instrs o) encode)

      -- the words written and the jumps placed
      pub order_done : (r : ℕ) (d : List ℕ) → tail_fault t ≡ 0 → Puts (map word (instrs o)) s.buf s.asm.len d r → put tag (plan_fault no_words t) (plan_items no_words t) (state (record { len = r; jumps = s.asm.jumps; closed = s.asm.closed }) s.labels s.jumps d) ≡ emitted tag o s
      order_done r d f w = rw (f, w.0, w.1, words_valid (instrs o) (order_valid o z)) (rest_placed ws t tag s zero_number ∙ as_words)

pub order_label : (l tag : ℕ) (s : State) → fault (SetLabel l) ≡ 0 → put 0 (label_fault l) (label l ∷ []) s ≡ emitted tag (SetLabel l) s
unfolding code
order_label l tag s h =
    let k : label_fault l ≡ 0 = label_fits l (order_small (SetLabel l) h refl) in
    put_label 0 tag (label_fault l) l s ∙ ap₂ (λ (k : ℕ) (is : List Item). put tag k is s) (k ∙ sym h) (sym (items_all (SetLabel l) h))

pub order_alone : (d k tag : ℕ) (s : State) → fault (LoadConst d k) ≡ 0 → put tag (plan_fault no_words (tail_of (LoadConst d k))) (plan_items no_words (tail_of (LoadConst d k))) s ≡ emitted tag (LoadConst d k) s
unfolding code
order_alone d k tag s h =
    rw (tail_fits (LoadConst d k) h) (ap₂ (λ (k : ℕ) (is : List Item). put tag k is s) (sym h) (sym (items_all (LoadConst d k) h)))

-- ---- an order of a deck

pub unsaved_some : (k : ℕ) → unsaved_fault k ≡ 0 → ⊥
unsaved_some k = by (eqb k 0) refl
  where
    by : (t : Bool) → eqb k 0 ≡ t → cond t 11 k ≡ 0 → ⊥
    by true q e = omega arith
    by false q e = eqb-false k 0 q e

pub counted_some : (o : Order) → count_fault o ≡ 0 → ⊥
counted_some o = by (registers_fit (uses o).registers)
  where
    by : (t : Bool) → ◌≡◌ {A = ℕ} (cond t 9 1) 0 → ⊥
    by true e = omega arith
    by false e = omega arith

-- an order whose cell is not below its count has no jump
counted_none : (H : Head) (o : Order) → index_holds H o ≡ false → targets [] ≡ targets (tail_items (tail_of o))
unfolding targets
counted_none H o e = grind arith

counted_goes : (H : Head) (o : Order) → index_holds H o ≡ false → targets [] ≡ targets (items o)
counted_goes H o e = by (eqb (fault o) 0) refl
  where
    by : (t : Bool) → eqb (fault o) 0 ≡ t → targets [] ≡ targets (items o)
    by true q = counted_none H o e ∙ goes_behind o (eqb-true (fault o) 0 q)
    by false q = items_none o (eqb-false (fault o) 0 q)

module _ (H : Head) (tag : ℕ) (o : Order) (s : State) (x : Outcome) where
  pub order_counted : (k w : ℕ) → index_holds H o ≡ false → k ≡ count_fault o → x ≡ prechecked k [] (targets []) w s → x ≡ emitted_in H tag o s
  order_counted k w e g q = rw e (order_refused o tag s k _ w (targets []) x g (counted_some o) (counted_goes H o e) q)

  pub order_unsaved : (k w : ℕ) (ts : List ℕ) → index_holds H o ≡ true → saves_hold H.mask o ≡ false → k ≡ unsaved_fault (fault o) → ts ≡ targets (items o)
      → x ≡ prechecked k [] ts w s → x ≡ emitted_in H tag o s
  order_unsaved k w ts e g h t q = rw (e, g) (order_refused o tag s k _ w ts x h (unsaved_some (fault o)) t q)

-- of an order without a fault of its own
pub deck_fault : (H : Head) (o : Order) → fault o ≡ 0 → fault_in H o ≡ cond (index_holds H o) (cond (saves_hold H.mask o) 0 11) 9
deck_fault H o z = rw (z, registers_true)
  where
    registers_true : registers_fit (uses o).registers ≡ true
    registers_true = T_true _ (operands_fit o z).0
