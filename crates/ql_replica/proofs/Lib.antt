mod ReceiptLaws
