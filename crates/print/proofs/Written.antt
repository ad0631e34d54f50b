-- Texts written one behind the other.
use mathlib.Core.Path.{◌≡◌, refl, sym, ap, ◌∙◌}
use mathlib.Core.List.{List, [], ◌++◌}
use Prim.Native.Nat.{ℕ, ◌+◌}
use native.Mathlib.Omega.{arith}
use lib.ListN.{length, length-append}
use lib.Seq.{sets}
use Rattle.print.specs.Writer.{HasRoom, Wrote}
use Rattle.print.specs.declared.writer.Writer.{Writer}
use Rattle.print.proofs.Stores.{sets_append}

pub behind : {t u : List ℕ} {v w x : Writer} → Wrote t v w → Wrote u w x → Wrote (t ++ u) v x
behind {t = t} {u = u} {v = v} p q = record {
  same_buffer = q.same_buffer ∙ p.same_buffer;
  at = omega (arith, length-append t u, p.at, q.at);
  as_long = q.as_long ∙ p.as_long;
  out = q.out ∙ rw (p.out, p.at) (sym (sets_append v.out.now v.at t u));
}

pub same : {t u : List ℕ} {v w : Writer} → t ≡ u → Wrote t v w → Wrote u v w
same e p = rw (← e) p

pub nothing : (v : Writer) → Wrote [] v v
nothing v = record { same_buffer = refl; at = omega arith; as_long = refl; out = refl }

-- ---- all of a text that a loop writes, of which a rest is left

pub record Left (all rest : List ℕ) (before now : Writer) : Type 0 where
  pub same_buffer : now.out.ghost_name ≡ before.out.ghost_name
  pub at : now.at + length rest ≡ before.at + length all
  pub as_long : length now.out.now ≡ length before.out.now
  pub out : sets before.out.now before.at all ≡ sets now.out.now now.at rest

pub all_left : (all : List ℕ) (v : Writer) → Left all all v v
all_left all v = record { same_buffer = refl; at = refl; as_long = refl; out = refl }

pub none_left : {all rest : List ℕ} {v w : Writer} → rest ≡ [] → Left all rest v w → Wrote all v w
none_left {w = w} e l = record {
  same_buffer = l.same_buffer;
  at = omega (arith, l.at, ap length e);
  as_long = l.as_long;
  out = sym (l.out ∙ rw e);
}

module _ (t more : List ℕ) {all rest : List ℕ} {v w : Writer} (e : rest ≡ t ++ more) (l : Left all rest v w) where
  pub room_left : HasRoom all v → HasRoom t w
  room_left h = omega (arith, h, l.at, l.as_long, ap length e, length-append t more)

  pub less_left : {x : Writer} → Wrote t w x → Left all more v x
  less_left p = record {
    same_buffer = p.same_buffer ∙ l.same_buffer;
    at = omega (arith, l.at, p.at, ap length e, length-append t more);
    as_long = p.as_long ∙ l.as_long;
    out = l.out ∙ rw (e, p.out, p.at) (sets_append w.out.now w.at t more);
  }
