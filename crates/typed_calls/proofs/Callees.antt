-- The instances that a tree calls are those of its calls in the text.
use Rattle.std.proofs.Common.{◌≡◌, ℕ, zero, suc, List, [], ◌∷◌, ◌++◌, false, slice_get, Some, ◌⊎◌, inl, inr, sym, ap, subst, arith}
use Rattle.std.proofs.lemmas.List.Elements.{Contains-append_cases, Contains-append_left, Contains-append_right}
use Rattle.std.specs.List.{Contains}
use Rattle.cstar_tree.specs.Calls.{Call, untyped}
use Rattle.cstar_tree.specs.Headers.{Leads, Program, Reached}

-- the instance of this number is that of one of these calls, and does not lead to the function
pub record IsCallee (program : Program) (f : ℕ) (calls : List Call) (number : ℕ) : Type 0 where
  pub instance : Reached
  pub is_instance : slice_get program.instances number ≡ Some instance
  pub no_way_back : Leads program.calls instance.function f → ⊥
  pub call : Call
  pub stands : Contains calls call
  pub same_function : call.function ≡ instance.function

pub record AreCallees (program : Program) (f : ℕ) (calls : List Call) (numbers : List ℕ) : Type 0 where
  pub each : (number : ℕ) → Contains numbers number → IsCallee program f calls number

module _ (program : Program) (f : ℕ) where
  pub no_callees : (calls : List Call) → AreCallees program f calls []
  no_callees calls = record { each = λ number among. absurd (omega (arith, among.1)) }

  callee_left : (calls more : List Call) (number : ℕ) → IsCallee program f calls number → IsCallee program f (calls ++ more) number
  callee_left calls more number is = record {
    instance = is.instance;
    is_instance = is.is_instance;
    no_way_back = is.no_way_back;
    call = is.call;
    stands = Contains-append_left calls more is.call is.stands;
    same_function = is.same_function;
  }

  callee_right : (before calls : List Call) (number : ℕ) → IsCallee program f calls number → IsCallee program f (before ++ calls) number
  callee_right before calls number is = record {
    instance = is.instance;
    is_instance = is.is_instance;
    no_way_back = is.no_way_back;
    call = is.call;
    stands = Contains-append_right before calls is.call is.stands;
    same_function = is.same_function;
  }

  pub callees_left : {calls : List Call} {numbers : List ℕ} (more : List Call) → AreCallees program f calls numbers → AreCallees program f (calls ++ more) numbers
  callees_left {calls = calls} more are = record { each = λ number among. callee_left calls more number (are.each number among) }

  pub callees_right : {calls : List Call} {numbers : List ℕ} (before : List Call) → AreCallees program f calls numbers → AreCallees program f (before ++ calls) numbers
  callees_right {calls = calls} before are = record { each = λ number among. callee_right before calls number (are.each number among) }

  pub callees_both : {calls more : List Call} {numbers others : List ℕ} → AreCallees program f calls numbers → AreCallees program f more others → AreCallees program f (calls ++ more) (numbers ++ others)
  callees_both {calls = calls} {more = more} {numbers = numbers} {others = others} first second = record { each = λ number among. step number (Contains-append_cases numbers others number among) }
    where
      step : (number : ℕ) → Contains numbers number ⊎ Contains others number → IsCallee program f (calls ++ more) number
      step number (inl here) = callee_left calls more number (first.each number here)
      step number (inr there) = callee_right calls more number (second.each number there)

  -- the same where the tree has them the other way round
  pub callees_turned : {calls more : List Call} {numbers others : List ℕ} → AreCallees program f calls numbers → AreCallees program f more others → AreCallees program f (calls ++ more) (others ++ numbers)
  callees_turned {calls = calls} {more = more} {numbers = numbers} {others = others} first second = record { each = λ number among. step number (Contains-append_cases others numbers number among) }
    where
      step : (number : ℕ) → Contains others number ⊎ Contains numbers number → IsCallee program f (calls ++ more) number
      step number (inl there) = callee_right calls more number (second.each number there)
      step number (inr here) = callee_left calls more number (first.each number here)

  untyped_stands : (calls : List Call) (c : Call) → Contains calls c → Contains (untyped calls) (record c { typed = false })
  untyped_stands [] c among = absurd (omega (arith, among.1))
  untyped_stands (d ∷ calls) c (zero, within, is) = (zero, omega arith, ap (λ (c : Call). record c { typed = false }) is)
  untyped_stands (d ∷ calls) c (suc k, within, is) =
      let rest = untyped_stands calls c (k, omega (arith, within), is) in
      (suc rest.0, omega (arith, rest.1), rest.2)

  pub callees_untyped : {calls : List Call} {numbers : List ℕ} → AreCallees program f calls numbers → AreCallees program f (untyped calls) numbers
  callees_untyped {calls = calls} are = record {
    each = λ number among.
        let is = are.each number among in
        record {
          instance = is.instance;
          is_instance = is.is_instance;
          no_way_back = is.no_way_back;
          call = record is.call { typed = false };
          stands = untyped_stands calls is.call is.stands;
          same_function = is.same_function;
        };
  }

  pub same_callees : {calls all : List Call} {numbers list : List ℕ} → all ≡ calls → list ≡ numbers → AreCallees program f calls numbers → AreCallees program f all list
  same_callees {calls = calls} {list = list} calls_are numbers_are are =
      subst (λ cs. AreCallees program f cs list) (sym calls_are) (subst (λ ns. AreCallees program f calls ns) (sym numbers_are) are)
