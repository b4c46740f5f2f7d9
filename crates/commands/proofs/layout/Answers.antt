-- `layout`: the length decides first, then the layout's answer. An accepted plan stands at the start of the page, and is handed over whole.
use Prim.Native.Nat.{ℕ, ◌≤◌}
use native.Mathlib.Omega.{arith}
use mathlib.Core.Path.{◌≡◌, refl, sym, ◌∙◌, ap}
use mathlib.Core.List.{List, []}
use lib.ListN.{length, take, replicate}
use lib.Seq.{length-take-le}
use Rattle.std.specs.Prelude.{Result, Ok, Err}
use Rattle.laws.specs.Lists.{Bytes}
use Rattle.answers.specs.declared.Refused.{Refused}
use Rattle.answers.specs.Numbers.{number_of}
use Rattle.records.proofs.Turns.{refusal_is_no_0}
use Rattle.layout.specs.Laid.{laid_of}
use Rattle.layout.specs.Layout.{layout_of, laid_in}
use Rattle.commands.specs.Streams.{streams, refused_with, layout_streams}
use Rattle.commands.proofs.Buffers.{nothing_written, nothing_filled}
use Rattle.commands.proofs.Layouts.{too_long_lem, refused_streams, laid_streams_lem, on_page_length}
use Rattle.commands.proofs.layout.Goals as goal

page : List ℕ
page = replicate 2048 0

-- ---- after the layout on the page

module _ (s : List ℕ) (depth : ℕ) (small : Bytes s) (fits : length s ≤ 65536) (result : Result ℕ Refused) (answer : laid_of result ≡ layout_of s depth (length page)) where
  refused_is : (e : Refused) → result ≡ Err e → layout_streams s depth ≡ refused_with (number_of e.refusal) e.place
  unfolding page
  refused_is e q =
      let as_refused : laid_of (Err e) ≡ layout_of s depth (length page) = ap laid_of (sym q) ∙ answer in
      refused_streams s depth small page (omega arith) fits (laid_of (Err e)) as_refused (refusal_is_no_0 e.refusal)

  module _ (n : ℕ) (q : result ≡ Ok n) (after : List ℕ) (written : after ≡ laid_in s depth page) where
    as_laid : laid_of (Ok n) ≡ layout_of s depth (length page)
    as_laid = ap laid_of (sym q) ∙ answer

    laid_is : layout_streams s depth ≡ streams (take n after) []
    unfolding page
    laid_is = laid_streams_lem s depth small page (omega arith) fits (laid_of (Ok n)) as_laid refl written

    long : (n ≤ 2048) × (length after ≡ 2048)
    unfolding page
    long = on_page_length s depth small page (omega arith) fits (laid_of (Ok n)) as_laid refl written

-- ---- the three ways out

pub returns-then-bytes-gt-LONGEST : goal.returns-then-bytes-gt-LONGEST
returns-then-bytes-gt-LONGEST c =
    let start = c.args in
    let is = too_long_lem start.bytes.now start.depth (omega (arith, c.if-bytes-gt-LONGEST.true)) in
    record { prints = rw is c.refused.ensures.prints; short = rw is c.refused.ensures.short }

pub returns-in-Err : goal.returns-in-Err
unfolding page
returns-in-Err c =
    let start = c.args in
    let is = refused_is start.bytes.now start.depth c.layout.ensures.small (omega (arith, c.if-bytes-gt-LONGEST.false)) c.layout.result c.layout.ensures.answer c.in-Err.why c.in-Err.is in
    record { prints = rw is c.refused-in-Err.ensures.prints; short = rw is c.refused-in-Err.ensures.short }

pub slice_bounds-page-end : goal.slice_bounds-page-end
unfolding page
slice_bounds-page-end c =
    let start = c.args in
    let here = long start.bytes.now start.depth c.layout.ensures.small (omega (arith, c.if-bytes-gt-LONGEST.false)) c.layout.result c.layout.ensures.answer c.in-Ok.written c.in-Ok.is c.layout.new.out c.layout.ensures.written in
    omega (arith, here.0, here.1)

pub slice_bounds-whole-end : goal.slice_bounds-whole-end
unfolding page
slice_bounds-whole-end c =
    let start = c.args in
    let here = long start.bytes.now start.depth c.layout.ensures.small (omega (arith, c.if-bytes-gt-LONGEST.false)) c.layout.result c.layout.ensures.answer c.in-Ok.written c.in-Ok.is c.layout.new.out c.layout.ensures.written in
    sym (length-take-le c.in-Ok.written c.layout.new.out (omega (arith, here.0, here.1)))

pub returns-in-Ok : goal.returns-in-Ok
unfolding page
returns-in-Ok c =
    let start = c.args in
    let errors = start.errors.now in
    let here = long start.bytes.now start.depth c.layout.ensures.small (omega (arith, c.if-bytes-gt-LONGEST.false)) c.layout.result c.layout.ensures.answer c.in-Ok.written c.in-Ok.is c.layout.new.out c.layout.ensures.written in
    let is = laid_is start.bytes.now start.depth c.layout.ensures.small (omega (arith, c.if-bytes-gt-LONGEST.false)) c.layout.result c.layout.ensures.answer c.in-Ok.written c.in-Ok.is c.layout.new.out c.layout.ensures.written in
    record {
      prints =
          rw is
          (record {
            counts = λ i. record { output = c.whole.ensures.count i; errors = nothing_written errors i };
            on_output = c.whole.ensures.held;
            on_errors = nothing_filled errors;
          });
      short =
          rw is
          (record {
            output_fits = omega (arith, here.0, length-take-le c.in-Ok.written c.layout.new.out (omega (arith, here.0, here.1)));
            errors_fit = omega arith;
          });
    }
