-- The lines one after the other. Assumes nothing.
use mathlib.Core.Path.{◌≡◌, refl, sym, ap, subst, ◌∙◌}
use mathlib.Core.Bool.{Bool, true, false, cond}
use mathlib.Core.List.{List, [], ◌∷◌, ◌++◌, map, append-nil, append_assoc}
use Prim.Native.Nat.{ℕ, suc, ◌+◌, ◌≤◌, ◌<◌}
use native.Mathlib.Nat.{add-zero}
use native.Mathlib.Omega.{arith}
use borrow.Author.Tests.{ltb-true}
use lib.Dec.{ltb}
use lib.ListN.{length, replicate, length-map, length-append}
use Rattle.ast.specs.Uses.{index_holds, saves_hold}
use Rattle.refusal.specs.Answer.{Answer, accepted, refused}
use Rattle.ast.specs.declared.Order.{Order}
use Rattle.ast.specs.declared.Constant.{Constant}
use Rattle.form.specs.Grammar.{said}
use Rattle.deck.specs.Judge.{Content, line_judged}
use Rattle.deck.specs.Judge as Deck
use Rattle.assembler.specs.Item.{Item}
use Rattle.ast.specs.Constant.{constant_bits}
use Rattle.assembler.specs.State.{State}
use Rattle.assembler.specs.Put.{jumps, targets, labels, put}
use Rattle.assembler.proofs.Items.{labels_append}
use Rattle.reading.specs.Line.{Line, order, constant}
use Rattle.orders.specs.Code.{code, line_code}
use Rattle.orders.specs.Emitted.{emitted_in}
use Rattle.orders.specs.Fault.{fault}
use Rattle.orders.proofs.Whole.{deck_fault, items_all}
use Rattle.ast.specs.Counts.{epilogue_holds}
use Rattle.finish.proofs.Represents.{Represents}
use Rattle.reading.specs.Program.{Program, constants}
use Rattle.call.specs.Layout.{body, entry}
use Rattle.routine.specs.Routine.{then, unless, room_number, order_number, constant_number, placed_at, as_line, line_read, lines_read, next_line, last_line, with_line, closed_off, finished, body_lines}
use Rattle.routine.specs.Run.{RunOutcome, refused_at, next, constant_run, line_run, waiting, lines_run}
use Rattle.routine.proofs.LawFit.{Fit, fit_append, fit_labelled, code_fit, code_labels, each_append}
use Rattle.base.proofs.Each.{Each, each_map}
use Rattle.routine.proofs.LawJudged.{Said, line_said}
use Rattle.routine.proofs.LawParts.{Agrees, then_then, laid_refuses, fault_agrees, put_agrees}
use Rattle.routine.proofs.LawLeave.{Before, tags_so_far, leave_agrees}

-- ---- one line more

body_last : (ls : List Line) (l : Line) → body (ls ++ (l ∷ [])) ≡ body ls ++ line_code l
unfolding body
body_last [] l = append-nil (line_code l)
body_last (k ∷ ls) l = ap (λ (is : List Item). line_code k ++ is) (body_last ls l) ∙ sym (append_assoc (line_code k) (body ls) (line_code l))

lines_last : (n : ℕ) (ls : List Line) (l : Line) → body_lines n (ls ++ (l ∷ [])) ≡ body_lines n ls ++ replicate (jumps (line_code l)) (n + length ls)
unfolding body_lines
lines_last n [] l = rw (add-zero n) (append-nil (replicate (jumps (line_code l)) n))
lines_last n (k ∷ ls) l =
    let z : suc n + length ls ≡ n + suc (length ls) = omega arith in
    ap (λ (ns : List ℕ). replicate (jumps (line_code k)) n ++ ns) (lines_last (suc n) ls l ∙ ap (λ (m : ℕ). body_lines (suc n) ls ++ replicate (jumps (line_code l)) m) z)
    ∙ sym (append_assoc (replicate (jumps (line_code k)) n) (body_lines (suc n) ls) (replicate (jumps (line_code l)) (n + suc (length ls))))

pub constants_order : (ls : List Line) (o : Order) → constants (ls ++ (order o ∷ [])) ≡ constants ls
unfolding constants
constants_order [] o = refl
constants_order (order k ∷ ls) o = constants_order ls o
constants_order (constant c ∷ ls) o = ap (λ (bs : List ℕ). constant_bits c ∷ bs) (constants_order ls o)

pub constants_last : (ls : List Line) (c : Constant) → constants (ls ++ (constant c ∷ [])) ≡ constants ls ++ (constant_bits c ∷ [])
unfolding constants
constants_last [] c = refl
constants_last (order k ∷ ls) c = constants_last ls c
constants_last (constant k ∷ ls) c = ap (λ (bs : List ℕ). constant_bits k ∷ bs) (constants_last ls c)

map_last : (cs : List Constant) (c : Constant) → map constant_bits (cs ++ (c ∷ [])) ≡ map constant_bits cs ++ (constant_bits c ∷ [])
map_last [] c = refl
map_last (k ∷ cs) c = ap (λ (bs : List ℕ). constant_bits k ∷ bs) (map_last cs c)

items_on : (p : Program) (l : Line) → entry p ++ body (p.lines ++ (l ∷ [])) ≡ (entry p ++ body p.lines) ++ line_code l
items_on p l = ap (λ (is : List Item). entry p ++ is) (body_last p.lines l) ∙ sym (append_assoc (entry p) (body p.lines) (line_code l))

tags_on : (p : Program) (l : Line) → tags_so_far (with_line p l) ≡ tags_so_far p ++ replicate (jumps (line_code l)) (next_line p)
tags_on p l =
    let z : 2 + length p.lines ≡ next_line p = omega arith in
    let e : body_lines 2 (p.lines ++ (l ∷ [])) ≡ body_lines 2 p.lines ++ replicate (jumps (line_code l)) (next_line p) = lines_last 2 p.lines l ∙ ap (λ (m : ℕ). body_lines 2 p.lines ++ replicate (jumps (line_code l)) m) z in
    ap (λ (ns : List ℕ). replicate (jumps (entry p)) 1 ++ ns) e
    ∙ sym (append_assoc (replicate (jumps (entry p)) 1) (body_lines 2 p.lines) (replicate (jumps (line_code l)) (next_line p)))

-- ---- a state in the middle of a file

-- the state has exactly what the lines so far ask for
pub record Going (b : List ℕ) (p : Program) (cs : List Constant) (s : State) : Type 0 where
  pub laid : Represents b (entry p ++ body p.lines) (tags_so_far p) s
  pub fit : Fit (entry p ++ body p.lines)
  pub before : Each Before (labels (entry p ++ body p.lines))
  pub bits : map constant_bits cs ≡ constants p.lines
  pub few : length cs ≤ 1008
  pub holds : epilogue_holds p.head ≡ true

module _ (b : List ℕ) (p : Program) (cs : List Constant) (s : State) (a : Going b p cs s) where
  going_on : (l : Line) (ds : List Constant) (u : State) → Represents b ((entry p ++ body p.lines) ++ line_code l) (tags_so_far p ++ replicate (jumps (line_code l)) (next_line p)) u
      → Fit (line_code l) → Each (λ k. k < 1024) (labels (line_code l)) → map constant_bits ds ≡ constants (p.lines ++ (l ∷ [])) → length ds ≤ 1008 → Going b (with_line p l) ds u
  going_on l ds u t f k c h =
      let is = items_on p l in
      record {
        laid = rw (is, tags_on p l) t;
        fit = rw is (fit_append (entry p ++ body p.lines) (line_code l) a.fit f);
        before =
            rw (is, labels_append (entry p ++ body p.lines) (line_code l))
            (each_append Before (labels (entry p ++ body p.lines)) (labels (line_code l)) a.before (each_map (λ k. k < 1024) Before (λ k q. (λ x. omega arith, omega arith)) (labels (line_code l)) k));
        bits = c;
        few = h;
        holds = a.holds;
      }

  going_order : (o : Order) (u : State) → fault o ≡ 0 → Represents b ((entry p ++ body p.lines) ++ code o) (tags_so_far p ++ replicate (jumps (code o)) (next_line p)) u → Going b (with_line p (order o)) cs u
  unfolding line_code
  going_order o u e t = going_on (order o) cs u t (code_fit o e) (code_labels o e).small (a.bits ∙ sym (constants_order p.lines o)) a.few

  going_constant : (c : Constant) → length cs < 1008 → Going b (with_line p (constant c)) (cs ++ (c ∷ [])) s
  unfolding line_code jumps targets labels
  going_constant c h =
      going_on (constant c) (cs ++ (c ∷ [])) s (rw (append-nil (entry p ++ body p.lines), append-nil (tags_so_far p)) a.laid) tt tt
      (map_last cs c ∙ ap (λ (bs : List ℕ). bs ++ (constant_bits c ∷ [])) a.bits ∙ sym (constants_last p.lines c))
      (omega (arith, length-append cs (c ∷ [])))

  -- ---- a line by what it says; F is what follows it

  module _ (F : Line → Answer Program) (K : Program → Answer Program) (more : List Constant → State → RunOutcome)
      (m : (l : Line) (ds : List Constant) (u : State) → Going b (with_line p l) ds u → Agrees b (then (F l) K) (more ds u)) where
    refuses : (n line : ℕ) → Agrees b (refused n line) (refused_at n line s)
    refuses = laid_refuses b (entry p ++ body p.lines) (tags_so_far p) s a.laid

    order_agrees : (o : Order) → fault o ≡ 0 → Agrees b (then (then (unless (order_number (length b) p o) (next_line p) (order o)) F) K) (next (emitted_in p.head (next_line p) o s) (next_line p) (more cs))
    order_agrees o e = rw (deck_fault p.head o e, items_all o e) (by (index_holds p.head o) (saves_hold p.head.mask o))
      where
        by : (t u : Bool)
            → Agrees b (then (then (unless (cond t (cond u (room_number (length b) (entry p ++ body p.lines) (code o)) 11) 9) (next_line p) (order o)) F) K)
            (next (put (next_line p) (cond t (cond u 0 11) 9) (code o) s) (next_line p) (more cs))
        by true true =
            rw (then_then (unless (room_number (length b) (entry p ++ body p.lines) (code o)) (next_line p) (order o)) F K)
            (put_agrees b (entry p ++ body p.lines) (tags_so_far p) s a.laid (code o) (next_line p) 0 (fit_labelled (code o) (code_fit o e)) (code_labels o e).once refl (next_line p) (more cs) Line (order o) (λ l. then (F l) K)
            (λ t l. m (order o) cs t (going_order o t e l)))
        by true false = fault_agrees b (entry p ++ body p.lines) (tags_so_far p) s a.laid (code o) (next_line p) 10 (fit_labelled (code o) (code_fit o e)) (λ z. omega arith) (λ z. omega arith) (next_line p) (more cs)
        by false u = fault_agrees b (entry p ++ body p.lines) (tags_so_far p) s a.laid (code o) (next_line p) 8 (fit_labelled (code o) (code_fit o e)) (λ z. omega arith) (λ z. omega arith) (next_line p) (more cs)

    constant_agrees : (c : Constant) → Agrees b (then (then (unless (constant_number p) (next_line p) (constant c)) F) K) (next (constant_run (length cs) s) (next_line p) (more (cs ++ (c ∷ []))))
    constant_agrees c =
        let n : length (constants p.lines) ≡ length cs = ap length (sym a.bits) ∙ length-map cs constant_bits in
        rw n (by (ltb (length cs) 1008) refl)
      where
        by : (t : Bool) → ltb (length cs) 1008 ≡ t
            → Agrees b (then (then (unless (cond t 0 9) (next_line p) (constant c)) F) K)
            (next (cond t (record { answer = accepted tt; state = s }) (record { answer = refused 9 0; state = s })) (next_line p) (more (cs ++ (c ∷ []))))
        by true q = m (constant c) (cs ++ (c ∷ [])) s (going_constant c (ltb-true (length cs) 1008 q))
        by false q = refuses 9 (next_line p)

    pub line_agrees : (x : Answer Content) → Said x
        → Agrees b (then (then (then (placed_at (next_line p) x) (as_line (length b) p)) F) K) (next (line_run p.head (next_line p) (length cs) x s) (next_line p) (more (cs ++ waiting x)))
    line_agrees (refused n place) e = refuses n (next_line p)
    line_agrees (accepted (Deck.head h)) e = refuses 12 (next_line p)
    line_agrees (accepted (Deck.order o)) e = rw (append-nil cs) (order_agrees o e)
    line_agrees (accepted (Deck.constant c)) e = constant_agrees c

-- ---- all lines behind line 1

module _ (b : List ℕ) where
  abbrev pub ending : Program → Answer Program
  ending p = then (closed_off (length b) p) finished

  line_after : (p : Program) (l : Line) → last_line (with_line p l) ≡ next_line p
  line_after p l = let n = length-append p.lines (l ∷ []) in omega arith

  pub lines_agrees : (ts : List (List ℕ)) (p : Program) (cs : List Constant) (s : State) → Going b p cs s → Agrees b (then (lines_read (length b) p ts) ending) (lines_run p.head (last_line p) cs ts s)
  unfolding lines_read line_read lines_run
  lines_agrees [] p cs s a = leave_agrees b p cs s a.laid a.fit a.before a.bits a.few a.holds
  lines_agrees (t ∷ ts) p cs s a =
      line_agrees b p cs s a (λ l. lines_read (length b) (with_line p l) ts) ending (λ (ds : List Constant) (u : State). lines_run p.head (next_line p) ds ts u)
      (λ l ds u g. subst (λ (n : ℕ). Agrees b (then (lines_read (length b) (with_line p l) ts) ending) (lines_run p.head n ds ts u)) (line_after p l) (lines_agrees ts (with_line p l) ds u g))
      (line_judged false (said t)) (line_said false (said t))
