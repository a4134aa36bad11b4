mod PlainReceipts
