-- The texts of the worked programs.
use Rattle.std.specs.Prelude.{◌≡◌, codes, refl}
use Rattle.perm_tree.proofs.Builder.{text_of}
use Rattle.perm_tree.proofs.ParPrograms.{p3, p4, p4_read, p4_both, p4_shared, p9, p10, p11, p11_shared}
use Rattle.perm_tree.proofs.Programs.{p1, p1_gone, p2, p5, p5_new, p5_test, p6, p6_immutable, p7, p8, p12, p13, p14}

pub p1-text : text_of p1 ≡ codes "class Main {\n  long x;\n  long y;\n  long Run(immutable long[] input) writable {\n    isolated Main p = new Main();\n    p.x = 3;\n    p.y = 4;\n    long a = p.x;\n    long b = p.y;\n    print a + b;\n    return 0;\n  }\n}\n"
p1-text = refl

pub p1_gone-text : text_of p1_gone ≡ codes "class Main {\n  long x;\n  long y;\n  long Run(immutable long[] input) writable {\n    isolated Main p = new Main();\n    p.x = 3;\n    p.y = 4;\n    immutable Main q = consume p;\n    long b = p.y;\n    print a + b;\n    return 0;\n  }\n}\n"
p1_gone-text = refl

pub p2-text : text_of p2 ≡ codes "class Cell {\n  long value;\n  writable Cell next;\n  long Total() readable {\n    long s = this.value;\n    readable Cell n = this.next;\n    if (n == null) {\n    } else {\n      long t = n.Total();\n      s = s + t;\n    }\n    return s;\n  }\n}\nclass Main {\n  immutable Cell list;\n  long Run(immutable long[] input) writable {\n    immutable Cell c = recover {\n      writable Cell head = null;\n      long i = 0;\n      long n = input.Length;\n      while (i < n) {\n        writable Cell k = new Cell();\n        long v = input[i];\n        k.value = v;\n        k.next = head;\n        head = k;\n        i = i + 1;\n      }\n      readable Cell r = head;\n      give r;\n    };\n    this.list = c;\n    long total = c.Total();\n    print total;\n    return total;\n  }\n}\n"
p2-text = refl

pub p5-text : text_of p5 ≡ codes "class Box {\n  long n;\n}\nclass Main {\n  long Run(immutable long[] input) writable {\n    isolated Box b = new Box();\n    long i = 0;\n    while (i < 2) {\n      immutable Box f = consume b;\n      i = i + 1;\n    }\n    return i;\n  }\n}\n"
p5-text = refl

pub p5_new-text : text_of p5_new ≡ codes "class Box {\n  long n;\n}\nclass Main {\n  long Run(immutable long[] input) writable {\n    isolated Box b = new Box();\n    long i = 0;\n    while (i < 2) {\n      immutable Box f = consume b;\n      b = new Box(); i = i + 1;\n    }\n    return i;\n  }\n}\n"
p5_new-text = refl

pub p5_test-text : text_of p5_test ≡ codes "class Box {\n  long n;\n}\nclass Main {\n  long Run(immutable long[] input) writable {\n    isolated Box b = new Box();\n    long i = 0;\n    while (b != null) {\n      b = new Box(); immutable Box f = consume b;\n      i = i + 1;\n    }\n    return i;\n  }\n}\n"
p5_test-text = refl

pub p6-text : text_of p6 ≡ codes "class Box {\n  readable Box other;\n}\nclass Main {\n  long Run(immutable long[] input) writable {\n    isolated Box a = new Box();\n    readable Box r = consume a;\n    isolated Box x = recover {\n      writable Box w = new Box();\n      w.other = r;\n      give w;\n    };\n    return 0;\n  }\n}\n"
p6-text = refl

pub p6_immutable-text : text_of p6_immutable ≡ codes "class Box {\n  readable Box other;\n}\nclass Main {\n  long Run(immutable long[] input) writable {\n    isolated Box a = new Box();\n    immutable Box r = consume a;\n    isolated Box x = recover {\n      writable Box w = new Box();\n      w.other = r;\n      give w;\n    };\n    return 0;\n  }\n}\n"
p6_immutable-text = refl

pub p7-text : text_of p7 ≡ codes "class Box {\n  long Eat(immutable Box o) writable {\n    return 0;\n  }\n}\nclass Main {\n  long Run(immutable long[] input) writable {\n    isolated Box y = new Box();\n    long t = y.Eat(consume y);\n    return t;\n  }\n}\n"
p7-text = refl

pub p8-text : text_of p8 ≡ codes "class Main {\n  long Run(immutable long[] input) writable {\n    long a = input[0];\n    long b = input[1];\n    print a / b;\n    print a % b;\n    return a - b;\n  }\n}\n"
p8-text = refl

pub p12-text : text_of p12 ≡ codes "class Leaf {\n  long n;\n}\nclass Ring {\n  writable Ring next;\n  immutable Leaf leaf;\n}\nclass Main {\n  writable Ring ring;\n  long Run(immutable long[] input) writable {\n    isolated Leaf m = new Leaf();\n    m.n = 9;\n    immutable Leaf f = consume m;\n    writable Ring a = new Ring();\n    writable Ring b = new Ring();\n    a.next = b;\n    b.next = a;\n    a.leaf = f;\n    b.leaf = f;\n    this.ring = a;\n    return 0;\n  }\n}\n"
p12-text = refl

pub p13-text : text_of p13 ≡ codes "class Main {\n  long F() readable {\n    long t = this.F();\n    return t;\n  }\n  long Run(immutable long[] input) writable {\n    long t = this.F();\n    return t;\n  }\n}\n"
p13-text = refl

pub p14-text : text_of p14 ≡ codes "class Main {\n  immutable long[] kept;\n  bool on;\n  long Run(immutable long[] input) writable {\n    this.kept = input;\n    this.on = true;\n    return 0;\n  }\n}\n"
p14-text = refl

pub p3_2-text : text_of (p3 2) ≡ codes "class Node {\n  writable Node left;\n  writable Node right;\n  long value;\n  long Sum() readable {\n    long s = 0;\n    readable Node l = this.left;\n    readable Node r = this.right;\n    if (l == null) {\n      s = this.value;\n    } else {\n      long a = 0;\n      long b = 0;\n      par {\n        a = l.Sum();\n      } {\n        b = r.Sum();\n      }\n      s = a + b;\n    }\n    return s;\n  }\n}\nclass Main {\n  isolated Node Build(long depth, long at, immutable long[] input) readable {\n    isolated Node n = new Node();\n    if (depth == 0) {\n      long v = input[at];\n      n.value = v;\n    } else {\n      isolated Node l = null;\n      isolated Node r = null;\n      par {\n        l = this.Build(depth - 1, at * 2, input);\n      } {\n        r = this.Build(depth - 1, at * 2 + 1, input);\n      }\n      n = recover {\n        writable Node w = consume n;\n        w.left = consume l;\n        w.right = consume r;\n        give w;\n      };\n    }\n    return consume n;\n  }\n  long Run(immutable long[] input) writable {\n    isolated Node root = this.Build(2, 0, input);\n    long total = root.Sum();\n    print total;\n    return 0;\n  }\n}\n"
p3_2-text = refl

pub p4-text : text_of p4 ≡ codes "class Child {\n  long n;\n  long Bump() writable {\n    long v = this.n;\n    this.n = v + 1;\n    return v + 1;\n  }\n}\nclass Main {\n  isolated Child child;\n  long mark;\n  long Run(immutable long[] input) writable {\n    isolated Child c = new Child();\n    this.child = consume c;\n    isolated Child d = consume this.child;\n    long got = 0;\n    par {\n      got = d.Bump();\n    } {\n      this.mark = 5;\n    }\n    this.child = consume d;\n    print got;\n    return 0;\n  }\n}\n"
p4-text = refl

pub p4_read-text : text_of p4_read ≡ codes "class Child {\n  long n;\n  long Bump() writable {\n    long v = this.n;\n    this.n = v + 1;\n    return v + 1;\n  }\n}\nclass Main {\n  isolated Child child;\n  long mark;\n  long Run(immutable long[] input) writable {\n    isolated Child c = new Child();\n    this.child = consume c;\n    isolated Child d = this.child;\n    long got = 0;\n    par {\n      got = d.Bump();\n    } {\n      this.mark = 5;\n    }\n    this.child = consume d;\n    print got;\n    return 0;\n  }\n}\n"
p4_read-text = refl

pub p4_both-text : text_of p4_both ≡ codes "class Child {\n  long n;\n  long Bump() writable {\n    long v = this.n;\n    this.n = v + 1;\n    return v + 1;\n  }\n}\nclass Main {\n  isolated Child child;\n  long mark;\n  long Run(immutable long[] input) writable {\n    isolated Child c = new Child();\n    this.child = consume c;\n    isolated Child d = consume this.child;\n    long got = 0;\n    par {\n      this.mark = 4;\n    } {\n      this.mark = 5;\n    }\n    this.child = consume d;\n    print got;\n    return 0;\n  }\n}\n"
p4_both-text = refl

pub p4_shared-text : text_of p4_shared ≡ codes "class Child {\n  long n;\n  long Bump() writable {\n    long v = this.n;\n    this.n = v + 1;\n    return v + 1;\n  }\n}\nclass Main {\n  isolated Child child;\n  long mark;\n  long Run(immutable long[] input) writable {\n    isolated Child c = new Child();\n    this.child = consume c;\n    isolated Child d = consume this.child;\n    long got = 0;\n    par {\n      got = d.Bump();\n    } {\n      this.mark = got;\n    }\n    this.child = consume d;\n    print got;\n    return 0;\n  }\n}\n"
p4_shared-text = refl

pub p9-text : text_of p9 ≡ codes "class Main {\n  long Run(immutable long[] input) writable {\n    long z = 0;\n    par {\n      print 1;\n      print 1 / z;\n    } {\n      print 2;\n    }\n    return 0;\n  }\n}\n"
p9-text = refl

pub p10-text : text_of p10 ≡ codes "class Main {\n  long Run(immutable long[] input) writable {\n    long z = 0;\n    par {\n      print 1 / z;\n    } {\n      writable long[] a = new long[8];\n    }\n    return 0;\n  }\n}\n"
p10-text = refl

pub p11-text : text_of p11 ≡ codes "class Main {\n  long Run(immutable long[] input) writable {\n    long a = 0;\n    long b = 0;\n    par {\n      a = 1;\n    } {\n      b = 2;\n    }\n    print a + b;\n    return 0;\n  }\n}\n"
p11-text = refl

pub p11_shared-text : text_of p11_shared ≡ codes "class Main {\n  long Run(immutable long[] input) writable {\n    long a = 0;\n    long b = 0;\n    par {\n      a = 1;\n    } {\n      a = 2;\n    }\n    print a + b;\n    return 0;\n  }\n}\n"
p11_shared-text = refl
