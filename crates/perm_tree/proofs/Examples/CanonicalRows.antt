-- Canonical texts of worked programs, computed.
use Rattle.std.specs.Prelude.{◌≡◌, pos, true, List, [], ◌∷◌, codes, refl}
use Rattle.std.specs.Fmt.{digits}
use Rattle.perm_tree.specs.declared.ast.Expr.{Expr}
use Rattle.perm_tree.specs.declared.ast.Expr.TheVariants.{Number, Bool as Truth, Unary, Binary}
use Rattle.perm_tree.specs.declared.ast.UnaryOp.TheVariants as unary
use Rattle.perm_tree.specs.declared.ast.BinaryOp.TheVariants as op
use Rattle.perm_tree.specs.Printer.Expressions.{expr_texts_of, expr_text_at}
use Rattle.perm_tree.specs.Printer.Programs.{canonical}
use Rattle.perm_tree.proofs.Builder.{listing_of}
use Rattle.perm_tree.proofs.ParPrograms.{p3, p4, p9, p10, p11}
use Rattle.perm_tree.proofs.Programs.{p1, p2, p5, p6, p7, p8, p12, p13, p14}

pub p1-canonical : canonical (listing_of p1) ≡ codes "class Main {\n  long x;\n  long y;\n  long Run(immutable long[] input) writable {\n    isolated Main p = new Main();\n    p.x = 3;\n    p.y = 4;\n    long a = p.x;\n    long b = p.y;\n    print a + b;\n    return 0;\n  }\n}\n"
unfolding digits
p1-canonical = refl

pub p2-canonical : canonical (listing_of p2) ≡ codes "class Cell {\n  long value;\n  writable Cell next;\n  long Total() readable {\n    long s = this.value;\n    readable Cell n = this.next;\n    if (n == null) {\n    } else {\n      long t = n.Total();\n      s = s + t;\n    }\n    return s;\n  }\n}\nclass Main {\n  immutable Cell list;\n  long Run(immutable long[] input) writable {\n    immutable Cell c = recover {\n      writable Cell head = null;\n      long i = 0;\n      long n = input.Length;\n      while (i < n) {\n        writable Cell k = new Cell();\n        long v = input[i];\n        k.value = v;\n        k.next = head;\n        head = k;\n        i = i + 1;\n      }\n      readable Cell r = head;\n      give r;\n    };\n    this.list = c;\n    long total = c.Total();\n    print total;\n    return total;\n  }\n}\n"
unfolding digits
p2-canonical = refl

pub p5-canonical : canonical (listing_of p5) ≡ codes "class Box {\n  long n;\n}\nclass Main {\n  long Run(immutable long[] input) writable {\n    isolated Box b = new Box();\n    long i = 0;\n    while (i < 2) {\n      immutable Box f = consume b;\n      i = i + 1;\n    }\n    return i;\n  }\n}\n"
unfolding digits
p5-canonical = refl

pub p6-canonical : canonical (listing_of p6) ≡ codes "class Box {\n  readable Box other;\n}\nclass Main {\n  long Run(immutable long[] input) writable {\n    isolated Box a = new Box();\n    readable Box r = consume a;\n    isolated Box x = recover {\n      writable Box w = new Box();\n      w.other = r;\n      give w;\n    };\n    return 0;\n  }\n}\n"
unfolding digits
p6-canonical = refl

pub p7-canonical : canonical (listing_of p7) ≡ codes "class Box {\n  long Eat(immutable Box o) writable {\n    return 0;\n  }\n}\nclass Main {\n  long Run(immutable long[] input) writable {\n    isolated Box y = new Box();\n    long t = y.Eat(consume y);\n    return t;\n  }\n}\n"
unfolding digits
p7-canonical = refl

pub p8-canonical : canonical (listing_of p8) ≡ codes "class Main {\n  long Run(immutable long[] input) writable {\n    long a = input[0];\n    long b = input[1];\n    print a / b;\n    print a % b;\n    return a - b;\n  }\n}\n"
unfolding digits
p8-canonical = refl

pub p12-canonical : canonical (listing_of p12) ≡ codes "class Leaf {\n  long n;\n}\nclass Ring {\n  writable Ring next;\n  immutable Leaf leaf;\n}\nclass Main {\n  writable Ring ring;\n  long Run(immutable long[] input) writable {\n    isolated Leaf m = new Leaf();\n    m.n = 9;\n    immutable Leaf f = consume m;\n    writable Ring a = new Ring();\n    writable Ring b = new Ring();\n    a.next = b;\n    b.next = a;\n    a.leaf = f;\n    b.leaf = f;\n    this.ring = a;\n    return 0;\n  }\n}\n"
unfolding digits
p12-canonical = refl

pub p13-canonical : canonical (listing_of p13) ≡ codes "class Main {\n  long F() readable {\n    long t = this.F();\n    return t;\n  }\n  long Run(immutable long[] input) writable {\n    long t = this.F();\n    return t;\n  }\n}\n"
unfolding digits
p13-canonical = refl

pub p14-canonical : canonical (listing_of p14) ≡ codes "class Main {\n  immutable long[] kept;\n  bool on;\n  long Run(immutable long[] input) writable {\n    this.kept = input;\n    this.on = true;\n    return 0;\n  }\n}\n"
unfolding digits
p14-canonical = refl

pub p3_2-canonical : canonical (listing_of (p3 2)) ≡ codes "class Node {\n  writable Node left;\n  writable Node right;\n  long value;\n  long Sum() readable {\n    long s = 0;\n    readable Node l = this.left;\n    readable Node r = this.right;\n    if (l == null) {\n      s = this.value;\n    } else {\n      long a = 0;\n      long b = 0;\n      par {\n        a = l.Sum();\n      } {\n        b = r.Sum();\n      }\n      s = a + b;\n    }\n    return s;\n  }\n}\nclass Main {\n  isolated Node Build(long depth, long at, immutable long[] input) readable {\n    isolated Node n = new Node();\n    if (depth == 0) {\n      long v = input[at];\n      n.value = v;\n    } else {\n      isolated Node l = null;\n      isolated Node r = null;\n      par {\n        l = this.Build(depth - 1, at * 2, input);\n      } {\n        r = this.Build(depth - 1, at * 2 + 1, input);\n      }\n      n = recover {\n        writable Node w = consume n;\n        w.left = consume l;\n        w.right = consume r;\n        give w;\n      };\n    }\n    return consume n;\n  }\n  long Run(immutable long[] input) writable {\n    isolated Node root = this.Build(2, 0, input);\n    long total = root.Sum();\n    print total;\n    return 0;\n  }\n}\n"
unfolding digits
p3_2-canonical = refl

pub p4-canonical : canonical (listing_of p4) ≡ codes "class Child {\n  long n;\n  long Bump() writable {\n    long v = this.n;\n    this.n = v + 1;\n    return v + 1;\n  }\n}\nclass Main {\n  isolated Child child;\n  long mark;\n  long Run(immutable long[] input) writable {\n    isolated Child c = new Child();\n    this.child = consume c;\n    isolated Child d = consume this.child;\n    long got = 0;\n    par {\n      got = d.Bump();\n    } {\n      this.mark = 5;\n    }\n    this.child = consume d;\n    print got;\n    return 0;\n  }\n}\n"
unfolding digits
p4-canonical = refl

pub p9-canonical : canonical (listing_of p9) ≡ codes "class Main {\n  long Run(immutable long[] input) writable {\n    long z = 0;\n    par {\n      print 1;\n      print 1 / z;\n    } {\n      print 2;\n    }\n    return 0;\n  }\n}\n"
unfolding digits
p9-canonical = refl

pub p10-canonical : canonical (listing_of p10) ≡ codes "class Main {\n  long Run(immutable long[] input) writable {\n    long z = 0;\n    par {\n      print 1 / z;\n    } {\n      writable long[] a = new long[8];\n    }\n    return 0;\n  }\n}\n"
unfolding digits
p10-canonical = refl

pub p11-canonical : canonical (listing_of p11) ≡ codes "class Main {\n  long Run(immutable long[] input) writable {\n    long a = 0;\n    long b = 0;\n    par {\n      a = 1;\n    } {\n      b = 2;\n    }\n    print a + b;\n    return 0;\n  }\n}\n"
unfolding digits
p11-canonical = refl

-- operands in parentheses: on the left where they bind looser, on the right where they bind looser or equally, and binary ones of a unary operator
abbrev operands : List Expr
operands =
    Number (pos 1)
    ∷ Number (pos 2)
    ∷ Binary op.Plus 0 1
    ∷ Number (pos 3)
    ∷ Binary op.Minus 2 3
    ∷ Binary op.Minus 3 2
    ∷ Binary op.Mul 2 5
    ∷ Unary unary.Minus 0
    ∷ Unary unary.Minus 7
    ∷ Unary unary.Minus 6
    ∷ Binary op.Div 6 8
    ∷ Binary op.Rem 8 6
    ∷ Binary op.Less 4 10
    ∷ Unary unary.Not 12
    ∷ Truth true
    ∷ Binary op.Or 13 14
    ∷ Binary op.And 15 13
    ∷ Binary op.Or 14 16
    ∷ []

pub left-written : (expr_text_at (expr_texts_of [] operands) 10).text ≡ codes "(1 + 2) * (3 - (1 + 2)) / --1"
unfolding digits
left-written = refl

pub right-written : (expr_text_at (expr_texts_of [] operands) 11).text ≡ codes "--1 % ((1 + 2) * (3 - (1 + 2)))"
unfolding digits
right-written = refl

pub unary-written : (expr_text_at (expr_texts_of [] operands) 9).text ≡ codes "-((1 + 2) * (3 - (1 + 2)))"
unfolding digits
unary-written = refl

pub tests-written : (expr_text_at (expr_texts_of [] operands) 17).text ≡ codes "true || (!(1 + 2 - 3 < (1 + 2) * (3 - (1 + 2)) / --1) || true) && !(1 + 2 - 3 < (1 + 2) * (3 - (1 + 2)) / --1)"
unfolding digits
tests-written = refl
